use Rattle.std.proofs.Common.{◌≡◌, ◌+◌, ◌≤◌, length, sym, ◌∙◌, ap, arith}
use Rattle.stores.specs.Catalogue.{are_zeros}
use Rattle.catalogue.specs.Places.{at16}
use Rattle.catalogue.proofs.CheckLaws.{stopped, not_stopped, part-rest}
use Rattle.catalogue.proofs.form.entry_at.Goals as goal
use Rattle.catalogue.proofs.form.entry_at.Goals.{else-s-at-ge-ENTRY_HEAD-via-then-s-at-ge-ENTRY_HEAD+else-read_u16-ne0, else-s-at-ge-ENTRY_HEAD-via-else-s-at-ge-ENTRY_HEAD}

pub returns-then-all_zeros : goal.returns-then-all_zeros
returns-then-all_zeros c =
    let no : c.args.at + 8 ≤ length c.args.s.now → at16 c.args.s.now c.args.at ≡ 0 = elim c.else-s-at-ge-ENTRY_HEAD.branch [
      | else-s-at-ge-ENTRY_HEAD-via-then-s-at-ge-ENTRY_HEAD+else-read_u16-ne0 w ↦ λ h. sym w.read_u16.ensures ∙ w.if-read_u16-ne0.false
      | else-s-at-ge-ENTRY_HEAD-via-else-s-at-ge-ENTRY_HEAD w ↦ λ h. absurd (omega arith)
    ] in
    stopped _ _ _ _ c.requires no (ap are_zeros (sym (part-rest _ _ c.requires)) ∙ sym c.all_zeros.ensures ∙ c.if-all_zeros.true)

pub returns-else-all_zeros : goal.returns-else-all_zeros
returns-else-all_zeros c =
    let no : c.args.at + 8 ≤ length c.args.s.now → at16 c.args.s.now c.args.at ≡ 0 = elim c.else-s-at-ge-ENTRY_HEAD.branch [
      | else-s-at-ge-ENTRY_HEAD-via-then-s-at-ge-ENTRY_HEAD+else-read_u16-ne0 w ↦ λ h. sym w.read_u16.ensures ∙ w.if-read_u16-ne0.false
      | else-s-at-ge-ENTRY_HEAD-via-else-s-at-ge-ENTRY_HEAD w ↦ λ h. absurd (omega arith)
    ] in
    not_stopped _ _ _ _ c.requires no (ap are_zeros (sym (part-rest _ _ c.requires)) ∙ sym c.all_zeros.ensures ∙ c.if-all_zeros.false)
