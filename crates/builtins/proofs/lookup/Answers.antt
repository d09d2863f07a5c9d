use Rattle.std.proofs.Common.{◌∙◌, sym, ap, map, [], ◌∷◌, rules, tests}
use Rattle.std.proofs.lemmas.Iterator.{YieldsList-from_slice}
use Rattle.std.proofs.lemmas.Iterator.Consumers.{YieldsList-from_copied}
use Rattle.std.proofs.lemmas.Iterator.Search.{find_from_yields_List}
use Rattle.std.proofs.lemmas.Iterator.Adapters.{option_map_id}
use Rattle.semantics.specs.Builtins.{folded, lookup}
use Rattle.text.specs.Text.{digit_of}
use Rattle.builtins.specs.declared.Builtin.TheVariants.{Id, Size, Head, Tail, Last, Keys, Values}
use Rattle.builtins.specs.Rows.{found_of}
use Rattle.builtins.proofs.Laws.{of-name, found-first}
use Rattle.builtins.proofs.lookup.Goals as goal

pub returns : goal.returns
unfolding lookup
returns c =
    let s = folded (map digit_of c.args.hex.now) in
    let found = find_from_yields_List (of-name s) _ _ c.find.result c.find.ensures.ran (YieldsList-from_copied (YieldsList-from_slice (Id ∷ Size ∷ Head ∷ Tail ∷ Last ∷ Keys ∷ Values ∷ []) cc)) (λ x b q k. unfold of-name in search (rules, tests)) in
    ap found_of (sym (option_map_id c.find.result) ∙ found) ∙ found-first s (Id ∷ Size ∷ Head ∷ Tail ∷ Last ∷ Keys ∷ Values ∷ [])
