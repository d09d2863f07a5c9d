use Rattle.exprs.proofs.CallLaws.{call_none, unknown, known, arg-some, arg-first, call_known}
use Rattle.exprs.specs.End.{arg_kept}
use Rattle.walk_run.specs.Run.{args_of}
use native.Mathlib.Omega.{arith}
use Rattle.exprs.proofs.call.end_call.Goals as goal

pub check_builtin_args-requires : goal.check_builtin_args-requires
check_builtin_args-requires c = (arg-some _ c.first_kept-first.ensures c.requires.0, c.requires.1)

pub resolve-requires : goal.resolve-requires
resolve-requires c = arg-some _ c.first_kept-first.ensures c.requires.0

pub returns-clause-ends : goal.returns-clause-ends
returns-clause-ends c = λ a k. call_known _ c.in-Some.builtin c.ret.result _ _ (known c.lookup.ensures c.in-Some.builtin c.in-Some.is) c.ret.ensures (arg-first _ c.first_kept-first.ensures a k) c.check_builtin_args.ensures.adds c.resolve.ensures

pub returns-in_default-clause-ends : goal.returns-in_default-clause-ends
returns-in_default-clause-ends c = λ a k. call_none _ (args_of (arg_kept a)) (unknown c.lookup.ensures c.in_default.is) (omega (arith, k.wide)) c.put_letter.ensures
