use Rattle.std.proofs.Common.{List, subst}
use Rattle.dns_data.specs.declared.file.FileText.{FileText}
use Rattle.plugin_api.specs.{Sayings}
use Rattle.chain_meaning.specs.Steps.{steps_of}
use Rattle.plugin_api.specs.declared.verdict.Verdict.TheVariants as verdict
use Rattle.plain_chain.specs.Serving.{GivesReply, IsShort}
use Rattle.plain_chain.proofs.Turned.{turn-off, turn-replies, turn-short, turn-tail}
use Rattle.plain_chain.proofs.serving.plain_serve.Goals as goal

pub returns-in-Done-clause-serves : goal.returns-in-Done-clause-serves
returns-in-Done-clause-serves g c =
    let reads = c.in-Ok.ensures.reads in
    let turn = λ (said : Sayings). rw c.in-Done.is at (c.in_ok-reply.ensures said) in
    let used = c.in_ok-used-in-Done.used in
    let blocks = c.in-Ok.read.blocks in
    record {
      blocks = blocks;
      accepted = reads.accepted;
      is = λ said. subst (λ (files : List FileText). GivesReply (steps_of said files) blocks c.args.datagram.now c.args.marks.now used c.in-Done.reply) reads.files
          (turn-replies (steps_of said c.in-Ok.read.files.now) blocks c.args.datagram.now c.args.marks.now c.in-Done.left.now used c.in-Done.reply c.in_ok-used-in-Done.ensures (turn said));
    }

pub used_of-requires : goal.used_of-requires
used_of-requires g c =
    let pass : Sayings = λ name d q. verdict.Pass in
    let turn = rw c.in-Done.is at (c.in_ok-reply.ensures pass) in
    turn-tail (steps_of pass c.in-Ok.read.files.now) c.in-Ok.read.blocks c.args.datagram.now c.args.marks.now c.in-Done.left.now c.in-Done.reply turn

pub returns-in-HasExtra-clause-serves : goal.returns-in-HasExtra-clause-serves
returns-in-HasExtra-clause-serves g c =
    let pass : Sayings = λ name d q. verdict.Pass in
    let reads = c.in-Ok.ensures.reads in
    let turn = rw c.in-HasExtra.is at (c.in_ok-reply.ensures pass) in
    record { blocks = c.in-Ok.read.blocks; accepted = reads.accepted; is = turn }

pub returns-in-More-clause-serves : goal.returns-in-More-clause-serves
returns-in-More-clause-serves g c =
    let reads = c.in-Ok.ensures.reads in
    let turn = λ (said : Sayings). rw c.in-More.is at (c.in_ok-reply.ensures said) in
    record {
      blocks = c.in-Ok.read.blocks;
      accepted = reads.accepted;
      is = λ said. subst (λ (files : List FileText). IsShort (steps_of said files) c.in-Ok.read.blocks c.args.datagram.now c.args.marks.now) reads.files
          (turn-short (steps_of said c.in-Ok.read.files.now) c.in-Ok.read.blocks c.args.datagram.now c.args.marks.now (turn said));
    }

pub returns-clause-serves : goal.returns-clause-serves
returns-clause-serves g c =
    let reads = c.in-Ok.ensures.reads in
    let turn = λ (said : Sayings). rw c.in-Off.is at (c.in_ok-reply.ensures said) in
    record {
      blocks = c.in-Ok.read.blocks;
      accepted = reads.accepted;
      is = λ said. subst (λ (files : List FileText). IsShort (steps_of said files) c.in-Ok.read.blocks c.args.datagram.now c.args.marks.now) reads.files
          (turn-off (steps_of said c.in-Ok.read.files.now) c.in-Ok.read.blocks c.args.datagram.now c.args.marks.now c.in-Off.field-0.now (turn said));
    }
