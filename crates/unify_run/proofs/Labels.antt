-- Two label sets merged in order, with what is kept dropped once it is too long: what the definition says. Assumes nothing.
use mathlib.Core.Path.{◌≡◌, refl, sym, ◌∙◌, ap}
use mathlib.Core.List.{List, [], ◌∷◌, ◌++◌}
use mathlib.Core.Option.{Option, none, some}
use mathlib.Core.Bool.{Bool, true, false}
use Prim.Native.Nat.{suc, ◌+◌}
use native.Mathlib.Omega.{arith}
use lib.ListN.{length}
use borrow.Author.Tests.{ltb-true, ltb-false, lt-ltb}
use Rattle.semantics.specs.Limits.{type_limit}
use Rattle.semantics.specs.Bytes.{Bytes}
use Rattle.semantics.specs.Ty.{t_node, names_to, labels_to, line_to, line, nesting, too_large, insert_name, insert_names}
use Rattle.semantics.specs.Unify.{unify_label_sets}
use Rattle.semantics.proofs.All.{All, empty, also, all-weaken, all_append}
use Rattle.semantics.proofs.Order.{Less, less-trans, lex-lt, lex-gt, lex-eq, Tri, lt, eq, gt, tri}
use Rattle.semantics.proofs.Regular.{Ascends, AscendingLabels}
use Rattle.unify_run.specs.Run.{Run, done, large, checked, given, long, drops, kept_labels, keep_label, close_labels, rest_labels, next_label, run_labels, run_nodes}
use Rattle.unify_run.proofs.Size.{bytes, name-length, small-true, long-large}
use Rattle.unify_run.proofs.Verdict.{checked-large, checked-small}
use Rattle.unify_run.proofs.Maps.{ascends-all}

-- ## Insertion of names

name-lt : {n m : Bytes} (ms : List Bytes) → Less n m → insert_name n (m ∷ ms) ≡ n ∷ m ∷ ms
unfolding insert_name
name-lt ms h = rw (lex-lt h, insert_name)

name-eq : (n : Bytes) (ms : List Bytes) → insert_name n (n ∷ ms) ≡ n ∷ ms
unfolding insert_name
name-eq n ms = rw (lex-eq n, insert_name)

name-gt : {n m : Bytes} (ms : List Bytes) → Less m n → insert_name n (m ∷ ms) ≡ m ∷ insert_name n ms
unfolding insert_name
name-gt ms h = rw (lex-gt h, insert_name)

pub name-twice : (x : Bytes) (l : List Bytes) → insert_name x (insert_name x l) ≡ insert_name x l
name-twice x [] = unfold insert_name in name-eq x []
name-twice x (y ∷ l) = go (name-twice x l) (tri x y)
  where
    go : insert_name x (insert_name x l) ≡ insert_name x l → Tri x y → insert_name x (insert_name x (y ∷ l)) ≡ insert_name x (y ∷ l)
    go ih (lt h) = rw (name-lt l h) (name-eq x (y ∷ l))
    go ih (eq h) = rw (h, name-eq y l) (name-eq y l)
    go ih (gt h) = rw (name-gt l h, name-gt (insert_name x l) h) (ap (λ r. y ∷ r) ih)

name-less : {x y : Bytes} → Less x y → (l : List Bytes) → insert_name x (insert_name y l) ≡ insert_name y (insert_name x l)
name-less h [] = unfold insert_name in (name-lt [] h ∙ sym (name-gt [] h))
name-less {x} {y} h (z ∷ l) = go (name-less h l) (tri z x) (tri z y)
  where
    go : insert_name x (insert_name y l) ≡ insert_name y (insert_name x l) → Tri z x → Tri z y → insert_name x (insert_name y (z ∷ l)) ≡ insert_name y (insert_name x (z ∷ l))
    go ih (lt a) b = let c = less-trans a h in simp (name-gt, ih)
    go ih (eq a) b = rw a (simp (name-gt, name-eq))
    go ih (gt a) (lt b) = simp (name-gt, name-lt)
    go ih (gt a) (eq b) = rw b (simp (name-eq, name-lt, name-gt))
    go ih (gt a) (gt b) = simp (name-gt, name-lt)

pub name-swap : (x y : Bytes) (l : List Bytes) → insert_name x (insert_name y l) ≡ insert_name y (insert_name x l)
name-swap x y l = go (tri x y)
  where
    go : Tri x y → insert_name x (insert_name y l) ≡ insert_name y (insert_name x l)
    go (lt h) = name-less h l
    go (eq h) = rw h
    go (gt h) = sym (name-less h l)

pub name-names : (x : Bytes) (a l : List Bytes) → insert_name x (insert_names a l) ≡ insert_names a (insert_name x l)
unfolding insert_names
name-names x [] l = refl
name-names x (y ∷ a) l = name-names x a (insert_name y l) ∙ ap (insert_names a) (name-swap x y l)

-- behind the others a name is appended
pub name-last : (n : Bytes) {ms : List Bytes} → All (λ m. Less m n) ms → insert_name n ms ≡ ms ++ (n ∷ [])
name-last n empty = unfold insert_name in refl
name-last n (also {x = m} {xs = ms} h a) = name-gt ms h ∙ ap (λ l. m ∷ l) (name-last n a)

-- ## What is kept

names-last : (ls : List Bytes) (n : Bytes) → length (names_to (ls ++ (n ∷ [])) []) ≡ suc (length n) + length (names_to ls [])
unfolding names_to
names-last [] n = name-length n (33 ∷ 44 ∷ [])
names-last (l ∷ ls) n = omega (arith, name-length l (names_to (ls ++ (n ∷ [])) []), name-length l (names_to ls []), names-last ls n)

label-bytes : (ls : List Bytes) → bytes (t_node (some ls)) ≡ 4 + length (names_to ls [])
unfolding line line_to labels_to
label-bytes ls = omega arith

pub keep-labels : (n : Bytes) (ls : List Bytes) → keep_label n (kept_labels ls) ≡ kept_labels (ls ++ (n ∷ []))
unfolding keep_label kept_labels
keep-labels n ls = go (long (t_node (some ls))) refl
  where
    ks : List Bytes
    ks = ls ++ (n ∷ [])

    still : long (t_node (some ls)) ≡ true → long (t_node (some ks)) ≡ true
    still p = unfold long in
        (let l = ltb-true type_limit (bytes (t_node (some ls))) p in
        lt-ltb type_limit (bytes (t_node (some ks))) (omega (arith, label-bytes ls, label-bytes ks, names-last ls n)))

    go : (c : Bool) → long (t_node (some ls)) ≡ c → given (drops c ls) none (λ js. drops (long (t_node (some (js ++ (n ∷ []))))) (js ++ (n ∷ []))) ≡ drops (long (t_node (some ks))) ks
    go true p = ap (λ c. drops c ks) (sym (still p))
    go false p = refl

-- a node type nests no types, so its bytes decide
pub close-labels : (ls : List Bytes) → close_labels (kept_labels ls) ≡ checked (t_node (some ls))
unfolding close_labels kept_labels
close-labels ls = go (long (t_node (some ls))) refl
  where
    go : (c : Bool) → long (t_node (some ls)) ≡ c → given (drops c ls) large (λ js. done (t_node (some js))) ≡ checked (t_node (some ls))
    go true p = sym (checked-large (t_node (some ls)) (long-large (t_node (some ls)) p))
    go false p = sym (checked-small (t_node (some ls)) (small-true (t_node (some ls)) (unfold long nesting in (ltb-false type_limit (bytes (t_node (some ls))) p, omega arith))))

-- ## The merge

-- each of these names comes behind those
abbrev After : List Bytes → List Bytes → Type 0
After d ns = All (λ n. All (λ m. Less m n) d) ns

after_last : (n : Bytes) (d : List Bytes) {ns : List Bytes} → All (Less n) ns → After d ns → After (d ++ (n ∷ [])) ns
after_last n d empty empty = empty
after_last n d (also p a) (also q b) = also (all_append q (also p empty)) (after_last n d a b)

none_after : (ns : List Bytes) → After [] ns
none_after [] = empty
none_after (n ∷ ns) = also empty (none_after ns)

-- the steps of the merge
pub labels-end : (k : Option (List Bytes)) → run_labels [] [] k ≡ close_labels k
unfolding run_labels rest_labels
labels-end k = refl

pub labels-left : (n : Bytes) (ns : List Bytes) (k : Option (List Bytes)) → run_labels (n ∷ ns) [] k ≡ run_labels ns [] (keep_label n k)
unfolding run_labels next_label
labels-left n ns k = refl

pub labels_right : (m : Bytes) (ms : List Bytes) (k : Option (List Bytes)) → run_labels [] (m ∷ ms) k ≡ run_labels [] ms (keep_label m k)
unfolding run_labels rest_labels
labels_right m ms k = refl

pub labels-first : (n m : Bytes) (ns ms : List Bytes) (k : Option (List Bytes)) → Less n m → run_labels (n ∷ ns) (m ∷ ms) k ≡ run_labels ns (m ∷ ms) (keep_label n k)
unfolding run_labels next_label
labels-first n m ns ms k h = rw (lex-lt h, next_label)

pub labels-both : (n : Bytes) (ns ms : List Bytes) (k : Option (List Bytes)) → run_labels (n ∷ ns) (n ∷ ms) k ≡ run_labels ns ms (keep_label n k)
unfolding run_labels next_label
labels-both n ns ms k = rw (lex-eq n, next_label)

pub labels-second : (n m : Bytes) (ns ms : List Bytes) (k : Option (List Bytes)) → Less m n → run_labels (n ∷ ns) (m ∷ ms) k ≡ run_labels (n ∷ ns) ms (keep_label m k)
unfolding run_labels next_label
labels-second n m ns ms k h = rw (lex-gt h, next_label)

-- the definition from here on
abbrev Named : List Bytes → List Bytes → List Bytes → Run
Named ns ms d = checked (t_node (some (insert_names ms (insert_names ns d))))

named-first : (n : Bytes) (ns ms d : List Bytes) → All (λ m. Less m n) d → Named (n ∷ ns) ms d ≡ Named ns ms (d ++ (n ∷ []))
unfolding insert_names
named-first n ns ms d a = ap (Named ns ms) (name-last n a)

named-second : (m : Bytes) (ns ms d : List Bytes) → All (λ k. Less k m) d → Named ns (m ∷ ms) d ≡ Named ns ms (d ++ (m ∷ []))
unfolding insert_names
named-second m ns ms d a = ap (λ l. checked (t_node (some (insert_names ms l)))) (name-names m ns d ∙ ap (insert_names ns) (name-last m a))

named-both : (n : Bytes) (ns ms d : List Bytes) → All (λ m. Less m n) d → Named (n ∷ ns) (n ∷ ms) d ≡ Named ns ms (d ++ (n ∷ []))
unfolding insert_names
named-both n ns ms d a = ap (λ l. checked (t_node (some (insert_names ms l)))) (name-names n ns (insert_name n d) ∙ ap (insert_names ns) (name-twice n d ∙ name-last n a))

rest-labels : (ms d : List Bytes) → Ascends ms → After d ms → rest_labels ms (kept_labels d) ≡ Named [] ms d
unfolding rest_labels insert_names
rest-labels [] d h b = close-labels d
rest-labels (m ∷ ms) d h (also p b) =
    ap (rest_labels ms) (keep-labels m d) ∙ rest-labels ms (d ++ (m ∷ [])) h.1 (after_last m d (ascends-all m ms h) b) ∙ ap (Named [] ms) (sym (name-last m p))

abbrev Merged : List Bytes → List Bytes → List Bytes → Type 0
Merged ns ms d = Ascends ms → After d ns → After d ms → run_labels ns ms (kept_labels d) ≡ Named ns ms d

next-run : (n : Bytes) (ns : List Bytes) → Ascends (n ∷ ns) → ((ms d : List Bytes) → Merged ns ms d) → (ms d : List Bytes) → Merged (n ∷ ns) ms d
next-run n ns up ih [] d g (also p ps) q =
    labels-left n ns (kept_labels d) ∙ ap (run_labels ns []) (keep-labels n d) ∙ ih [] (d ++ (n ∷ [])) tt (after_last n d (ascends-all n ns up) ps) empty ∙ sym (named-first n ns [] d p)
next-run n ns up ih (m ∷ ms) d g (also p ps) (also q qs) = go (tri n m) (λ e. next-run n ns up ih ms e)
  where
    later : All (Less n) ns
    later = ascends-all n ns up

    go : Tri n m → ((e : List Bytes) → Merged (n ∷ ns) ms e) → run_labels (n ∷ ns) (m ∷ ms) (kept_labels d) ≡ Named (n ∷ ns) (m ∷ ms) d
    go (lt h) inner =
        let above : All (Less n) (m ∷ ms) = also h (all-weaken (λ k r. less-trans h r) (ascends-all m ms g)) in
        labels-first n m ns ms (kept_labels d) h ∙ ap (run_labels ns (m ∷ ms)) (keep-labels n d)
        ∙ ih (m ∷ ms) (d ++ (n ∷ [])) g (after_last n d later ps) (after_last n d above (also q qs)) ∙ sym (named-first n ns (m ∷ ms) d p)
    go (eq h) inner =
        let above : All (Less n) ms = rw h (ascends-all m ms g) in
        rw (← h)
        (labels-both n ns ms (kept_labels d) ∙ ap (run_labels ns ms) (keep-labels n d) ∙ ih ms (d ++ (n ∷ [])) g.1 (after_last n d later ps) (after_last n d above qs) ∙ sym (named-both n ns ms d p))
    go (gt h) inner =
        let above : All (Less m) (n ∷ ns) = also h (all-weaken (λ k r. less-trans h r) later) in
        labels-second n m ns ms (kept_labels d) h ∙ ap (run_labels (n ∷ ns) ms) (keep-labels m d)
        ∙ inner (d ++ (m ∷ [])) g.1 (after_last m d above (also p ps)) (after_last m d (ascends-all m ms g) qs) ∙ sym (named-second m (n ∷ ns) ms d q)

labels-run : (ns ms d : List Bytes) → Ascends ns → Merged ns ms d
labels-run [] ms d up g p q = unfold run_labels in rest-labels ms d g q
labels-run (n ∷ ns) ms d up g p q = next-run n ns up (λ ls e. labels-run ns ls e up.1) ms d g p q

node-small : too_large (t_node none) ≡ false
unfolding too_large line line_to labels_to nesting
node-small = refl

pub nodes-run : (ls ks : Option (List Bytes)) → AscendingLabels ls → AscendingLabels ks → run_nodes ls ks ≡ checked (t_node (unify_label_sets ls ks))
unfolding run_nodes unify_label_sets
nodes-run none ks p q = sym (checked-small (t_node none) node-small)
nodes-run (some ls) none p q = sym (checked-small (t_node none) node-small)
nodes-run (some ls) (some ks) p q = labels-run ls ks [] p q (none_after ls) (none_after ks)
