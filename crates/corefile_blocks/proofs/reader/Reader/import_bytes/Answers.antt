use Rattle.std.proofs.Common.{◌∙◌, Ok, sym, ap, subst}
use Rattle.corefile_words.specs.{words_of}
use Rattle.corefile_blocks.specs.Blocks.{file_of}
use Rattle.corefile_blocks.specs.Reader.{AreTexts}
use Rattle.corefile_blocks.proofs.ImportLemmas.{one_more_text}
use Rattle.corefile_blocks.proofs.reader.Reader.import_bytes.Goals as goal

pub returns-in_ok-push-in-Ok-clause-texts : goal.returns-in_ok-push-in-Ok-clause-texts
returns-in_ok-push-in-Ok-clause-texts c =
    let name = c.in_ok-from_slice-in-Ok.ensures ∙ c.as_bytes.ensures.value in
    let lines = c.in_ok-lines-in-Ok.ensures ∙ c.in_ok-of-in-Ok.ensures in
    subst (AreTexts c.args.bundle.now) (sym c.in_ok-push-in-Ok.ensures.ok)
    (one_more_text c.args.bundle.now c.args.self.now.texts (record { name = c.in_ok-from_slice-in-Ok.field-0; lines = c.in_ok-lines-in-Ok.lines }) c.requires.texts
    (record {
      bytes = c.args.bytes.now;
      file = ap (λ n. file_of n c.args.bundle.now.files) name ∙ c.requires.file;
      words = ap (λ env. words_of env c.args.bytes.now) (sym c.as_slice.ensures) ∙ c.in-Ok.ensures.reads ∙ ap Ok (sym lines);
    }))
