use Rattle.std.proofs.Common.{[], rules}
use Rattle.outside.specs.Journals.{adds-nothing}
use Rattle.outside.specs.TakingLaws.{stays-nothing}
use Rattle.chain_build.proofs.Served.{logs_nothing}
use Rattle.chain_build.proofs.serving.serve_by.Goals as goal

pub returns-in-Ok-header_reply-clause-tells : goal.returns-in-Ok-header_reply-clause-tells
returns-in-Ok-header_reply-clause-tells g c = record { marks = []; told = adds-nothing _; stays = stays-nothing _; serves = search rules; logs = logs_nothing _ c.args.arrived.now.datagram.now _ }

pub returns-in-Ok-header_reply-2-clause-tells : goal.returns-in-Ok-header_reply-2-clause-tells
returns-in-Ok-header_reply-2-clause-tells g c = record { marks = []; told = adds-nothing _; stays = stays-nothing _; serves = search rules; logs = logs_nothing _ c.args.arrived.now.datagram.now _ }

pub returns-in-Err-Short-clause-tells : goal.returns-in-Err-Short-clause-tells
returns-in-Err-Short-clause-tells g c = record { marks = []; told = adds-nothing _; stays = stays-nothing _; serves = search rules; logs = logs_nothing _ c.args.arrived.now.datagram.now _ }

pub returns-in-Err-Response-clause-tells : goal.returns-in-Err-Response-clause-tells
returns-in-Err-Response-clause-tells g c = record { marks = []; told = adds-nothing _; stays = stays-nothing _; serves = search rules; logs = logs_nothing _ c.args.arrived.now.datagram.now _ }

pub returns-in-Err-clause-tells : goal.returns-in-Err-clause-tells
returns-in-Err-clause-tells g c = record { marks = []; told = adds-nothing _; stays = stays-nothing _; serves = search rules; logs = logs_nothing _ c.args.arrived.now.datagram.now _ }

pub returns-in-Err-header_reply-clause-tells : goal.returns-in-Err-header_reply-clause-tells
returns-in-Err-header_reply-clause-tells g c = record { marks = []; told = adds-nothing _; stays = stays-nothing _; serves = search rules; logs = logs_nothing _ c.args.arrived.now.datagram.now _ }

pub returns-in-Err-NoMemory-clause-tells : goal.returns-in-Err-NoMemory-clause-tells
returns-in-Err-NoMemory-clause-tells g c = record { marks = []; told = adds-nothing _; stays = stays-nothing _; serves = search rules; logs = logs_nothing _ c.args.arrived.now.datagram.now _ }
