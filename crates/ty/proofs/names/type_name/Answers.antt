use native.Mathlib.Omega.{arith}
use mathlib.Core.Path.{◌≡◌, refl}
use borrow.Author.Tests.{ne_eqb}
use Rattle.semantics.specs.Bytes.{text}
use Rattle.ty.specs.Kind.{name_of_kind}
use Rattle.ty.proofs.KindLaws.{names_kind}
use Rattle.ty.proofs.names.type_name.Goals as goal

pub returns-in-65-clause-names : goal.returns-in-65-clause-names
unfolding name_of_kind text
returns-in-65-clause-names c = names_kind 65 c.in-65.is

pub returns-in-66-clause-names : goal.returns-in-66-clause-names
unfolding name_of_kind text
returns-in-66-clause-names c = names_kind 66 c.in-66.is

pub returns-in-67-clause-names : goal.returns-in-67-clause-names
unfolding name_of_kind text
returns-in-67-clause-names c = names_kind 67 c.in-67.is

pub returns-in-68-clause-names : goal.returns-in-68-clause-names
unfolding name_of_kind text
returns-in-68-clause-names c = names_kind 68 c.in-68.is

pub returns-in-69-clause-names : goal.returns-in-69-clause-names
unfolding name_of_kind text
returns-in-69-clause-names c = names_kind 69 c.in-69.is

pub returns-in-70-clause-names : goal.returns-in-70-clause-names
unfolding name_of_kind text
returns-in-70-clause-names c = names_kind 70 c.in-70.is

pub returns-in-71-clause-names : goal.returns-in-71-clause-names
unfolding name_of_kind text
returns-in-71-clause-names c = names_kind 71 c.in-71.is

pub returns-in-72-clause-names : goal.returns-in-72-clause-names
unfolding name_of_kind text
returns-in-72-clause-names c = names_kind 72 c.in-72.is

pub returns-in-73-clause-names : goal.returns-in-73-clause-names
unfolding name_of_kind text
returns-in-73-clause-names c = names_kind 73 c.in-73.is

pub returns-in-74-clause-names : goal.returns-in-74-clause-names
unfolding name_of_kind text
returns-in-74-clause-names c = names_kind 74 c.in-74.is

pub returns-in-75-clause-names : goal.returns-in-75-clause-names
unfolding name_of_kind text
returns-in-75-clause-names c = names_kind 75 c.in-75.is

pub returns-in-76-clause-names : goal.returns-in-76-clause-names
unfolding name_of_kind text
returns-in-76-clause-names c = names_kind 76 c.in-76.is

pub returns-in-77-clause-names : goal.returns-in-77-clause-names
unfolding name_of_kind text
returns-in-77-clause-names c = names_kind 77 c.in-77.is

pub returns-in-78-clause-names : goal.returns-in-78-clause-names
unfolding name_of_kind text
returns-in-78-clause-names c = names_kind 78 c.in-78.is

pub returns-in-79-clause-names : goal.returns-in-79-clause-names
unfolding name_of_kind text
returns-in-79-clause-names c = names_kind 79 c.in-79.is

pub returns-in_default-clause-names : goal.returns-in_default-clause-names
unfolding name_of_kind text
returns-in_default-clause-names c =
    let k = c.args.k in
    let e : text "Unknown" ≡ name_of_kind k = rw (ne_eqb k 65 (λ e. omega arith), ne_eqb k 66 (λ e. omega arith), ne_eqb k 67 (λ e. omega arith), ne_eqb k 68 (λ e. omega arith), ne_eqb k 69 (λ e. omega arith), ne_eqb k 70 (λ e. omega arith), ne_eqb k 71 (λ e. omega arith), ne_eqb k 72 (λ e. omega arith), ne_eqb k 73 (λ e. omega arith), ne_eqb k 74 (λ e. omega arith), ne_eqb k 75 (λ e. omega arith), ne_eqb k 76 (λ e. omega arith), ne_eqb k 77 (λ e. omega arith), ne_eqb k 78 (λ e. omega arith), ne_eqb k 79 (λ e. omega arith)) in
    rw e (names_kind k refl)
