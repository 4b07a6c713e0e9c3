use Rattle.std.proofs.Common.{◌++◌, [], ◌∷◌, not, string_bytes, ◌∙◌, sym, ap, subst}
use Rattle.corefile_blocks.specs.WantedFiles.{AreKnown}
use Rattle.corefile_blocks.proofs.WantedLemmas.{added_once, not_added, one_known, there}
use Rattle.corefile_blocks.proofs.wanted.add_once.Goals as goal

pub returns-then-not-branch-clause-made : goal.returns-then-not-branch-clause-made
returns-then-not-branch-clause-made c =
    not_added c.args.made.now c.args.name.now
    (there c.args.known.now c.args.made.now c.args.name.now (string_bytes c.in_ok-from_str.field-0) c.in_ok-insert.field-0
    (c.in_ok-from_str.ensures.ok ∙ c.as_str.ensures) c.requires c.in_ok-insert.ensures.added
    ∙ ap not c.if-not-branch.true)

pub returns-clause-made : goal.returns-clause-made
returns-clause-made c =
    added_once c.args.made.now c.push.new.self c.args.name.now
    (there c.args.known.now c.args.made.now c.args.name.now (string_bytes c.in_ok-from_str.field-0) c.in_ok-insert.field-0
    (c.in_ok-from_str.ensures.ok ∙ c.as_str.ensures) c.requires c.in_ok-insert.ensures.added
    ∙ ap not c.if-not-branch.false)
    (c.in_ok-push.ensures.ok ∙ ap (λ text. c.args.made.now ++ text ∷ []) c.in_ok-copy.ensures)

pub returns-clause-known : goal.returns-clause-known
returns-clause-known c =
    let after = c.in_ok-push.ensures.ok ∙ ap (λ text. c.args.made.now ++ text ∷ []) c.in_ok-copy.ensures in
    subst (AreKnown c.insert.new.self) (sym after)
    (one_known c.args.known.now c.insert.new.self c.args.made.now c.args.name.now (string_bytes c.in_ok-from_str.field-0)
    (c.in_ok-from_str.ensures.ok ∙ c.as_str.ensures) c.requires c.in_ok-insert.ensures.updates)
