-- Neither cut of a record that was accepted is refused; what both write is listed.
use mathlib.Core.Path.{sym}
use lib.Seq.{length-take-le}
use Rattle.listing.proofs.Results.{pieces-ok, stricts-ok, pieces-few, pairs-inside, lists, listed}
use Rattle.listing.proofs.list_record.Goals as goal

pub unwrap-pieces-requires : goal.unwrap-pieces-requires
unwrap-pieces-requires c = pieces-ok c.requires c.args.admitted.accepted c.cut.result c.cut.ensures

pub unwrap-stricts-requires : goal.unwrap-stricts-requires
unwrap-stricts-requires c = stricts-ok c.requires c.args.admitted.accepted c.cut-2.result c.cut-2.ensures

pub entries-requires : goal.entries-requires
entries-requires c = pieces-few c.requires c.args.admitted.accepted c.cut.ensures c.unwrap-pieces.ensures

pub slice_bounds-write_result-end : goal.slice_bounds-write_result-end
slice_bounds-write_result-end c = pairs-inside c.requires c.args.admitted.accepted c.cut.ensures c.unwrap-pieces.ensures c.entries.ensures

pub slice_bounds-write_result-end-2 : goal.slice_bounds-write_result-end-2
slice_bounds-write_result-end-2 c =
    sym (length-take-le _ _ (pairs-inside c.requires c.args.admitted.accepted c.cut.ensures c.unwrap-pieces.ensures c.entries.ensures))

pub write_result-requires : goal.write_result-requires
write_result-requires c =
    lists c.requires c.args.admitted.accepted c.cut.ensures c.unwrap-pieces.ensures c.entries.ensures c.cut-2.ensures c.unwrap-stricts.ensures

pub returns : goal.returns
returns c = listed c.requires c.args.admitted.accepted c.cut.ensures c.cut-2.ensures c.write_result.ensures
