use Rattle.std.proofs.Common.{Err, ◌∙◌, sym, subst}
use Rattle.corefile_words.specs.{words_of}
use Rattle.corefile_words.specs.Words.{ReadsWords}
use Rattle.corefile_blocks.proofs.SeekLemmas.{starts_faulty, starts_well}
use Rattle.corefile_blocks.proofs.seeking.Seeker.new.Goals as goal

pub returns-in_ok-over-in-Ok : goal.returns-in_ok-over-in-Ok
returns-in_ok-over-in-Ok c =
    starts_well c.args.bundle.now c.in_ok-over-in-Ok.field-0 c.in-Ok.lines
    ((λ i. words_of (sym c.as_slice-2.ensures i) (sym c.as_slice.ensures i)) ∙ c.in-Ok.ensures.reads) c.in_ok-over-in-Ok.ensures

pub returns-in_ok-over-in_default : goal.returns-in_ok-over-in_default
returns-in_ok-over-in_default c =
    let reads = subst (λ env. ReadsWords c.args.bundle.now.conf env (Err c.in-Err.fault)) c.as_slice-2.ensures
    (subst (λ bytes. ReadsWords bytes c.as_slice-2.result.now (Err c.in-Err.fault)) c.as_slice.ensures c.in-Err.ensures.reads) in
    starts_faulty c.args.bundle.now c.in_ok-over-in_default.field-0 c.new.result c.in-Err.fault c.in_default.not-NoMemory reads c.new.ensures c.in_ok-over-in_default.ensures
