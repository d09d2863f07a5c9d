use Rattle.infer.proofs.StepLaws.{keeps-first, keeps-two, keep-last, keep-answer, keep-item, keep-entry, keep-none, item_in, entry_in, arm_in}
use Rattle.infer.proofs.step.keep.Goals as goal

pub list_item-requires : goal.list_item-requires
list_item-requires c = item_in c.in-Listing.is c.requires

pub map_value-requires : goal.map_value-requires
map_value-requires c = entry_in c.in-Mapping.is c.requires

pub case_child-requires : goal.case_child-requires
case_child-requires c = arm_in c.in-Casing.is c.requires

pub returns-in-Listing : goal.returns-in-Listing
returns-in-Listing c = keep-item c.in-Listing.is c.list_item.ensures

pub returns-in-Mapping : goal.returns-in-Mapping
returns-in-Mapping c = keep-entry c.in-Mapping.is c.map_value.ensures

pub returns-in-Element : goal.returns-in-Element
returns-in-Element c = keeps-first c.in-Element.is c.keep_first.ensures

pub returns-in-Operator : goal.returns-in-Operator
returns-in-Operator c = keeps-two c.in-Operator.is c.keep_two.ensures

pub returns-in-Casing : goal.returns-in-Casing
returns-in-Casing c = keep-answer c.in-Casing.is c.case_child.ensures

pub returns-in-Comprehension : goal.returns-in-Comprehension
returns-in-Comprehension c = keep-last c.in-Comprehension.is c.comprehension_child.ensures

pub returns-in-Constant : goal.returns-in-Constant
returns-in-Constant c = keep-none c.in-Constant.is
