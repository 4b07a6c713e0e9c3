use Rattle.outside.specs.Journals.{later_told}
use Rattle.dns_server.proofs.telling.tell_line.Goals as goal

pub returns-in-Failed-clause-counts : goal.returns-in-Failed-clause-counts
returns-in-Failed-clause-counts g c = later_told c.tell.result c.tell.ensures
