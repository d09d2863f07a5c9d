-- Unification from either side: the statement (RULES 10.2). What is claimed is about `unify_call`: number, returned numbers and every byte
-- of work area and output.
use Rattle.std.specs.Prelude.{◌≡◌, ◌++◌, Bool, true, false, ◌&&◌, not, ◌+◌, length, take, drop, eqb, ltb}
use Rattle.std.proofs.Math.Option.{none, some}
use Rattle.std.proofs.Math.Seq.{slice}
use Rattle.semantics.specs.Limits.{work_size, unify_output}
use Rattle.semantics.specs.Bytes.{Bytes}
use Rattle.semantics.specs.Ty.{Ty, base, t_list, t_map, t_node, t_relationship, t_union, Fields, ∅ᶠ, field, type_line}
use Rattle.semantics.specs.Calls.{Settled, cleared, unify_call}

-- "holding no union at any depth"
unfoldable mutual
  pub union_free : Ty → Bool
  union_free (base b) = true
  union_free (t_list t) = union_free t
  union_free (t_map fs) = union_free_f fs
  union_free (t_node ls) = true
  union_free (t_relationship n) = true
  union_free (t_union ts) = false

  pub union_free_f : Fields → Bool
  union_free_f ∅ᶠ = true
  union_free_f (field n t fs) = union_free t && union_free_f fs

-- expected and actual change places: their lengths, and their texts at the front of the output (RULES 7.2, cause 9)
abbrev pub turned : Settled → Settled
turned s =
    record {
      number = s.number;
      first = s.second;
      second = s.first;
      work = s.work;
      out = slice s.first (s.first + s.second) s.out ++ (take s.first s.out ++ drop (s.first + s.second) s.out);
    }

-- "the same number: the same line, or 6 both times, or 9 with expected and actual exchanged"
unfoldable pub exchanged : Settled → Settled
exchanged s = elim (eqb s.number 9) [ true ↦ turned s | false ↦ s ]

-- buffers that earn neither 2 nor 7 (RULES 7.6)
unfoldable pub enough : Bytes → Bytes → Bool
enough work out = eqb (length work) work_size && not (ltb (length out) unify_output)

-- THE CLAIM, for every lent byte
pub record UnifyExchange : Type 0 where
  -- two type lines without unions, whatever is lent
  pub lines : (a b work out : Bytes) {t u : Ty} → type_line a ≡ some t → type_line b ≡ some u → union_free t ≡ true → union_free u ≡ true
      → unify_call b a work out ≡ exchanged (unify_call a b work out)
  -- one type line, unions or not, and a text that is none: 8, and its place is where that text stands
  pub one_line : (a b work out : Bytes) {t : Ty} → type_line a ≡ some t → type_line b ≡ none → enough work out ≡ true
      → (unify_call a b work out ≡ cleared 8 2 work out) × (unify_call b a work out ≡ cleared 8 1 work out)
  -- two texts that are none: 8 with place 1 both times
  pub no_line : (a b work out : Bytes) → type_line a ≡ none → type_line b ≡ none → enough work out ≡ true
      → (unify_call a b work out ≡ cleared 8 1 work out) × (unify_call b a work out ≡ cleared 8 1 work out)
  -- 2 and 7 look at no text: any two texts get the same answer in both orders
  pub lent : (a b work out : Bytes) → enough work out ≡ false → unify_call b a work out ≡ unify_call a b work out
