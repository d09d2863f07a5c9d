-- Every union inside a regular type is canonical.
use mathlib.Core.Path.{◌≡◌, ◌∙◌, ap}
use mathlib.Core.List.{List, map, Memᴰ}
use mathlib.Core.Bool.{false}
use Rattle.semantics.specs.Ty.{Ty, t_union, Tys, Fields, members, line, is_union}
use Rattle.semantics.proofs.All.{All, empty, also}
use Rattle.semantics.proofs.Regular.{Regular, RegularS, RegularF, Member, ascends-true, regular-members}
use Rattle.rewording.specs.Reword.{Within, itself, of_list, of_map, of_union, WithinFields, in_field, in_later_field, WithinMembers, in_member, in_later_member, Canonical}

mutual
  within-regular : {u t : Ty} → Within u t → Regular t → Regular u
  within-regular itself r = r
  within-regular (of_list w) r = within-regular w r
  within-regular (of_map w) r = within-fields w r.1
  within-regular (of_union w) r = within-members w r.2

  within-fields : {u : Ty} {fs : Fields} → WithinFields u fs → RegularF fs → Regular u
  within-fields (in_field w) r = within-regular w r.0
  within-fields (in_later_field w) r = within-fields w r.1

  within-members : {u : Ty} {ts : Tys} → WithinMembers u ts → RegularS ts → Regular u
  within-members (in_member w) r = within-regular w r.1
  within-members (in_later_member w) r = within-members w r.2

member-flat : {ms : List Ty} → All Member ms → (t : Ty) → Memᴰ t ms → is_union t ≡ false
member-flat empty t i = elim i [ ]
member-flat (also p ps) t (Memᴰ.head e) = ap is_union e ∙ p.0
member-flat (also p ps) t (Memᴰ.tail i) = member-flat ps t i

pub unions-canonical : (t : Ty) (ts : Tys) → Within (t_union ts) t → Regular t → Canonical ts
unions-canonical t ts w r =
    let q : Regular (t_union ts) = within-regular w r in
    record { two = q.0; ascend = ascends-true (map line (members ts)) q.1; flat = member-flat (regular-members ts q.2) }
