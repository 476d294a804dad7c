use mathlib.Core.Path.{◌≡◌}
use mathlib.Core.List.{[], ◌∷◌}
use Prim.Native.Nat.{◌-◌}
use native.Mathlib.Nat.{sub-zero}
use native.Mathlib.Omega.{arith}
use lib.ListN.{length, set, take, drop, length-set}
use Rattle.buffers.proofs.WriteLaws.{stored_one, stored-append, stored-all}
use Rattle.graph.specs.Search.{run}
use Rattle.points.proofs.PointLaws.{chain-uppers, chain-lowers, uppers-length, lowers-length, stored-run}
use Rattle.points.proofs.lay_chain.Goals as goal

pub returns-clause-uppers : goal.returns-clause-uppers
returns-clause-uppers c = let s = c.args in let l = s.upper.now in let k = length l - 1 in
    let laid = stored-run (set l 0 s.a) 1 (length (set l 0 s.a)) s.d s.d k c.number_from.ensures (omega (arith, length-set l 0 s.a, c.requires.some)) (omega arith) (omega arith) (omega (arith, length-set l 0 s.a)) in
    let long = rw (chain-uppers s.a s.b s.d k) at (uppers-length s.a s.b s.d k) in
    rw (chain-uppers s.a s.b s.d k) (stored-all (omega (arith, long, c.requires.some)) (stored-append (s.a ∷ []) (run s.d k) (stored_one l 0 s.a) laid))

pub returns-clause-lowers : goal.returns-clause-lowers
returns-clause-lowers c = let s = c.args in let l = s.lower.now in let k = length l - 1 in
    let e : c.number_from-2.new.part ≡ run s.d (length (take (k - 0) (drop 0 l))) = rw (sub-zero k) c.number_from-2.ensures in
    let laid = rw (sub-zero k) at (stored-run l 0 k s.d s.d k e (omega arith) (omega arith) (omega arith) (omega arith)) in
    let long = rw (chain-lowers s.a s.b s.d k) at (lowers-length s.a s.b s.d k) in
    rw (← c.requires.both, chain-lowers s.a s.b s.d k) (stored-all (omega (arith, long, c.requires.some, c.requires.both)) (stored-append (run s.d k) (s.b ∷ []) laid (stored_one _ k s.b)))
