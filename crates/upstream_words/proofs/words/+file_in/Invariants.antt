use Rattle.std.proofs.Common.{length}
use Rattle.upstream_words.proofs.words.+file_in.Given as goal

abbrev pub decreases-file_in : goal.decreases-file_in
decreases-file_in l = length l.files.now
