use mathlib.Core.Path.{subst}
use Rattle.std.specs.Prelude.{ℕ, Option}
use Rattle.old.specs.Make.{LabelSpotted}
use Rattle.old.proofs.LabelSeek.{label-new, label-there}
use Rattle.old.proofs.labels.add_label.Goals as goal

pub returns-in-Some : goal.returns-in-Some
returns-in-Some c =
    let st = c in
    let a = st.args in
    label-new a.work.now a.n a.name.now st.requires _ (subst (λ (r : Option ℕ). LabelSpotted a.work.now a.n a.name.now r) c.in-Some.is c.label_spot.ensures) _ _ c.insert_entry.ensures

pub returns-in-None : goal.returns-in-None
returns-in-None c =
    let st = c in
    let a = st.args in
    label-there a.work.now a.n a.name.now st.requires (subst (λ (r : Option ℕ). LabelSpotted a.work.now a.n a.name.now r) c.in-None.is c.label_spot.ensures)
