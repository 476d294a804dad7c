use Rattle.std.proofs.Common.{arith, ◌-◌, get_or, suc}
use Rattle.graph.specs.Rows.{at}
use Rattle.merging.specs.Merged.{no_merged_edge, drawn_edges}
use Rattle.merging.proofs.SameLaws.{drawn-length}
use Rattle.points.specs.Points.{dummies}
use Rattle.buffers.proofs.RunLaws.{run_length}
use Rattle.labels.proofs.PageLaws.{putting-room, putting-part, putting-end}
use Rattle.lines.proofs.LayLaws.{rows_between, dummies-length, numbered-count, next-laid, last-laid, laid-edge, laid-down}
use Rattle.lines.proofs.dummies.lay_dummies.Goals as goal

pub offset_bounds-ys-e : goal.offset_bounds-ys-e
offset_bounds-ys-e g c = let d = laid-down c.args.list.now c.args.turned.now c.loop-merged.merged-index c.loop-merged-test.true c.directed-e.ensures c.requires in omega (arith, d.from_in)

pub bounds-ys-e : goal.bounds-ys-e
bounds-ys-e g c = (laid-down c.args.list.now c.args.turned.now c.loop-merged.merged-index c.loop-merged-test.true c.directed-e.ensures c.requires).from_in

pub offset_bounds-ys-e-in-loop-merged : goal.offset_bounds-ys-e-in-loop-merged
offset_bounds-ys-e-in-loop-merged g c = let d = laid-down c.args.list.now c.args.turned.now c.loop-merged.merged-index c.loop-merged-test.true c.directed-e.ensures c.requires in omega (arith, d.to_in)

pub bounds-ys-e-in-loop-merged : goal.bounds-ys-e-in-loop-merged
bounds-ys-e-in-loop-merged g c = (laid-down c.args.list.now c.args.turned.now c.loop-merged.merged-index c.loop-merged-test.true c.directed-e.ensures c.requires).to_in

pub lay_edge-requires : goal.lay_edge-requires
lay_edge-requires g c =
    let a = c.args in
    let i = c.loop-merged.merged-index in
    let d = c.directed-e.result in
    let edges = drawn_edges a.turned.now a.list.now in
    let here = laid-edge a.list.now a.turned.now i c.loop-merged-test.true c.directed-e.ensures in
    let room = putting-room c.loop-merged.invariant (next-laid a.list.now a.ys.now edges i (omega (arith, drawn-length a.turned.now a.list.now)) here) in
    let on = dummies-length (get_or a.list.now i no_merged_edge).first (rows_between a.ys.now d) in
    let between = run_length (suc (at a.ys.now d.from)) (at a.ys.now d.to - at a.ys.now d.from - 1) in (
      omega arith,
      ((laid-down a.list.now a.turned.now i c.loop-merged-test.true c.directed-e.ensures c.requires).down, omega (arith, room, on, between, numbered-count a.list.now (dummies a.ys.now 0 edges), c.requires.room)),
    )

pub loop-merged-preserved : goal.loop-merged-preserved
loop-merged-preserved g c =
    let a = c.args in
    let here = laid-edge a.list.now a.turned.now c.loop-merged.merged-index c.loop-merged-test.true c.directed-e.ensures in
    putting-part c.loop-merged.invariant
    (next-laid a.list.now a.ys.now (drawn_edges a.turned.now a.list.now) c.loop-merged.merged-index (omega (arith, drawn-length a.turned.now a.list.now)) here) c.lay_edge.ensures

pub returns : goal.returns
returns g c =
    let a = c.args in
    putting-end c.loop-merged.invariant
    (last-laid a.list.now a.ys.now (drawn_edges a.turned.now a.list.now) c.loop-merged.merged-index (omega (arith, drawn-length a.turned.now a.list.now, c.loop-merged-test.false)))
