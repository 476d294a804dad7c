use Rattle.std.proofs.Common.{rules, arith, ◌≡◌, ◌<◌, ◌+◌, ◌-◌, ℕ, [], ◌∷◌, ap, suc}
use Rattle.graph.specs.Search.{run}
use Rattle.buffers.proofs.RunLaws.{run_length, run-turn, run_end}
use Rattle.labels.proofs.PageLaws.{Parts, putting-room, putting-part, putting-end}
use Rattle.lines.specs.Printing.{dummies_on}
use Rattle.lines.proofs.LayLaws.{dummies-length}
use Rattle.lines.proofs.dummies.lay_edge.Goals as goal

-- the dummy in row r, and those below it
next-dummy : (edge r bottom : ℕ) → r < bottom
    → Parts (dummies_on edge (run r (bottom - r))) (record { edge = edge; row = r } ∷ []) (dummies_on edge (run (r + 1) (bottom - (r + 1))))
next-dummy edge r bottom h = record { is = ap (dummies_on edge) (run-turn r bottom h) }

pub push-requires : goal.push-requires
push-requires g c =
    let room = putting-room c.loop-row.invariant (next-dummy c.args.edge c.loop-row.row c.args.bottom c.loop-row-test.true) in
    let count = dummies-length c.args.edge (run (suc c.args.top) (c.args.bottom - suc c.args.top)) in
    (search rules, omega (arith, run_length (suc c.args.top) (c.args.bottom - suc c.args.top)))

pub loop-row-preserved : goal.loop-row-preserved
loop-row-preserved g c =
    putting-part c.loop-row.invariant (next-dummy c.args.edge c.loop-row.row c.args.bottom c.loop-row-test.true) c.push.ensures.items

pub returns : goal.returns
returns g c =
    let e : c.args.bottom - suc c.args.top ≡ c.args.bottom - c.args.top - 1 = omega arith in
    rw (← e) (putting-end c.loop-row.invariant (ap (dummies_on c.args.edge) (run_end c.loop-row.row c.args.bottom c.loop-row-test.false)))
