use Rattle.exprs.proofs.CallLaws.{args_none, args-accepted, args-refused}
use Rattle.exprs.proofs.call.check_builtin_args.Goals as goal

pub returns-in_default-clause-adds : goal.returns-in_default-clause-adds
returns-in_default-clause-adds c = args_none _ _ c.in_default.is

pub returns-else-not-accepts-clause-adds : goal.returns-else-not-accepts-clause-adds
returns-else-not-accepts-clause-adds c = args-accepted _ _ _ c.in-Some.is c.param.ensures c.accepts.ensures c.if-not-accepts.false

pub returns-then-not-accepts-clause-adds : goal.returns-then-not-accepts-clause-adds
returns-then-not-accepts-clause-adds c = args-refused _ _ _ c.in-Some.is c.param.ensures c.accepts.ensures c.if-not-accepts.true c.fault_call.ensures.adds
