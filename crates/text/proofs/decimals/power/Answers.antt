use Rattle.text.proofs.Tens.{power_at}
use Rattle.text.proofs.decimals.power.Goals as goal

pub returns : goal.returns
returns c = power_at c.args.i c.requires
