use mathlib.Core.Path.{refl}
use Rattle.infer.proofs.EndLaws.{some-rule, element-in, slice_in, list-in, call-in, operator-in, unary-in, case-in, member-in, last-in, by-rule, settled, quiet-constant, quiet-variable, quiet-element, quiet-slice, quiet-list, quiet-map, end-call, end-operator, end-unary, end-case, end-in, end-last}
use Rattle.infer.proofs.step.finish.Goals as goal

pub end_index-len-requires : goal.end_index-len-requires
end_index-len-requires c = element-in c.rule_of.ensures c.in-Element.is c.requires

pub end_slice-len-requires : goal.end_slice-len-requires
end_slice-len-requires c = slice_in c.rule_of.ensures c.in-Slice.is c.requires

pub end_list-len-requires : goal.end_list-len-requires
end_list-len-requires c = list-in c.rule_of.ensures c.in-Listing.is c.requires

pub name_of-name-requires : goal.name_of-name-requires
name_of-name-requires c = c.requires.at.head.within

pub end_call-len-requires : goal.end_call-len-requires
end_call-len-requires c = call-in c.rule_of.ensures c.in-Call.is c.requires

pub infer_binop-requires : goal.infer_binop-requires
infer_binop-requires c = operator-in c.rule_of.ensures c.in-Operator.is c.requires

pub infer_unaryop-len-requires : goal.infer_unaryop-len-requires
infer_unaryop-len-requires c = unary-in c.rule_of.ensures c.in-Unary.is c.requires

pub end_case-requires : goal.end_case-requires
end_case-requires c = case-in c.rule_of.ensures c.in-Casing.is c.requires

pub check_in_list-requires : goal.check_in_list-requires
check_in_list-requires c = member-in c.rule_of.ensures c.in-Membership.is c.requires

pub end_comprehension-requires : goal.end_comprehension-requires
end_comprehension-requires c = last-in c.rule_of.ensures c.in-Comprehension.is c.requires

pub unreachable-requires : goal.unreachable-requires
unreachable-requires c = some-rule c.rule_of.ensures c.requires c.in-Silent.is

pub returns-in-Constant-clause-ends : goal.returns-in-Constant-clause-ends
returns-in-Constant-clause-ends c = settled (by-rule c.rule_of.ensures) (rw c.in-Constant.is refl) (quiet-constant c.in-Constant.is c.constant-len.ensures)

pub returns-in-Variable-clause-ends : goal.returns-in-Variable-clause-ends
returns-in-Variable-clause-ends c = settled (by-rule c.rule_of.ensures) (rw c.in-Variable.is refl) (quiet-variable c.in-Variable.is c.var_type-len.ensures)

pub returns-in-Element-clause-ends : goal.returns-in-Element-clause-ends
returns-in-Element-clause-ends c = settled (by-rule c.rule_of.ensures) (rw c.in-Element.is refl) (quiet-element c.in-Element.is c.end_index-len.ensures)

pub returns-in-Slice-clause-ends : goal.returns-in-Slice-clause-ends
returns-in-Slice-clause-ends c = settled (by-rule c.rule_of.ensures) (rw c.in-Slice.is refl) (quiet-slice c.in-Slice.is c.end_slice-len.ensures)

pub returns-in-Listing-clause-ends : goal.returns-in-Listing-clause-ends
returns-in-Listing-clause-ends c = settled (by-rule c.rule_of.ensures) (rw c.in-Listing.is refl) (quiet-list c.in-Listing.is c.end_list-len.ensures)

pub returns-in-Mapping-clause-ends : goal.returns-in-Mapping-clause-ends
returns-in-Mapping-clause-ends c = settled (by-rule c.rule_of.ensures) (rw c.in-Mapping.is refl) (quiet-map c.in-Mapping.is)

pub returns-in-Call-clause-ends : goal.returns-in-Call-clause-ends
returns-in-Call-clause-ends c = end-call c.rule_of.ensures c.in-Call.is c.name_of-name.ensures c.end_call-len.ensures.ends

pub returns-in-Operator-clause-ends : goal.returns-in-Operator-clause-ends
returns-in-Operator-clause-ends c = end-operator c.rule_of.ensures c.in-Operator.is c.infer_binop.ensures.ends

pub returns-in-Unary-clause-ends : goal.returns-in-Unary-clause-ends
returns-in-Unary-clause-ends c = end-unary c.rule_of.ensures c.in-Unary.is c.infer_unaryop-len.ensures.ends

pub returns-in-Casing-clause-ends : goal.returns-in-Casing-clause-ends
returns-in-Casing-clause-ends c = end-case c.rule_of.ensures c.in-Casing.is (λ k f a. c.end_case.ensures k f a _)

pub returns-in-Membership-clause-ends : goal.returns-in-Membership-clause-ends
returns-in-Membership-clause-ends c = end-in c.rule_of.ensures c.in-Membership.is c.check_in_list.ensures.ends

pub returns-in-Comprehension-clause-ends : goal.returns-in-Comprehension-clause-ends
returns-in-Comprehension-clause-ends c = end-last c.rule_of.ensures c.in-Comprehension.is (λ u a. c.end_comprehension.ensures u a _)
