use mathlib.Core.Path.{refl}
use Rattle.drain.proofs.DrainLaws as laws
use Rattle.drain.proofs.send_flow.Goals as goal

pub returns-clause-sent : goal.returns-clause-sent
returns-clause-sent c =
    laws.sends _ _ _ _ _ _ _ _ _ _ _ _ _ _ c.args.net.now.network.weights c.requires.s_lt_n c.requires.sendable _ c.min-d.ensures
    _ _ _ _ _ c.push_flow.ensures c.lower_rows.ensures refl refl refl

pub push_flow-requires : goal.push_flow-requires
push_flow-requires c =
    laws.pushable _ _ _ _ _ _ _ _ _ _ _ _ _ _ c.args.net.now.network.weights c.requires.s_lt_n c.requires.sendable _ c.min-d.ensures
