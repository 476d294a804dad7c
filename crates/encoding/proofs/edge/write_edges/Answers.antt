use Rattle.std.proofs.Common.{rules, arith}
use Rattle.graph.specs.Directed.{no_table_edge}
use Rattle.labels.proofs.PageLaws.{putting-room, putting-part, putting-end, parts-room, parts-put}
use Rattle.encoding.specs.Shortest.{short_edge}
use Rattle.encoding.proofs.PutLaws.{list-parts, next-item, last-item}
use Rattle.encoding.proofs.edge.write_edges.Goals as goal

pub write_edge-requires : goal.write_edge-requires
write_edge-requires g c =
    let behind = parts-room c.args.page.now.items (list-parts (short_edge c.args.edition) c.args.edges.now) c.write_number.ensures in
    let room = putting-room c.loop-edge.invariant (next-item (short_edge c.args.edition) c.args.edges.now no_table_edge c.loop-edge.edge-index c.loop-edge-test.true) in
    (search rules, (c.requires.writable_edges.each_edge c.loop-edge.edge-index c.loop-edge-test.true, omega arith))

pub loop-edge-preserved : goal.loop-edge-preserved
loop-edge-preserved g c =
    putting-part c.loop-edge.invariant (next-item (short_edge c.args.edition) c.args.edges.now no_table_edge c.loop-edge.edge-index c.loop-edge-test.true) c.write_edge.ensures

pub returns : goal.returns
returns g c =
    parts-put c.args.page.now.items (list-parts (short_edge c.args.edition) c.args.edges.now) c.write_number.ensures
    (putting-end c.loop-edge.invariant (last-item (short_edge c.args.edition) c.args.edges.now c.loop-edge.edge-index c.loop-edge-test.false))
