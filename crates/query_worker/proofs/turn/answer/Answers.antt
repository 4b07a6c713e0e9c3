use Rattle.query_worker.proofs.Answering.{answered, over}
use Rattle.query_worker.proofs.turn.answer.Goals as goal

pub returns-clause-told : goal.returns-clause-told
returns-clause-told g c =
    answered c.serve-served.result c.send-turned.result (over c.pin-serial.ensures.pinned c.serve-served.ensures.same c.unpin.ensures.unpinned) c.saw.ensures.told c.serve-served.ensures.tells
    c.send-turned.ensures.sends c.show_unpinned.ensures.told
