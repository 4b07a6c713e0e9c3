use Rattle.stream_wire.proofs.Steps.{both_pieces, first_piece}
use Rattle.stream_wire.proofs.writing.write_frame.Goals as goal

pub returns-in-Ok : goal.returns-in-Ok
returns-in-Ok g c =
    both_pieces _ _ _ c.args.bytes.now c.split_at.result.0.now c.split_at.result.1.now _ c.split_at.ensures.by_index.0 c.put_first.ensures c.in-Ok.ensures _ c.write_all-in-Ok.ensures

pub returns-in-Failed : goal.returns-in-Failed
returns-in-Failed g c =
    first_piece _ _ c.args.bytes.now c.split_at.result.0.now c.split_at.result.1.now _ c.split_at.ensures.by_index.0 c.put_first.ensures c.in-Failed.ensures
