use Rattle.std.proofs.Common.{◌≡◌, ◌∙◌, true, nat_eq, rules, sym}
use Rattle.dns_data.specs.declared.class.TheConstants as classes
use Rattle.plugin_api.specs.{picked}
use Rattle.outside.specs.Meanings.{Done}
use Rattle.chain_meaning.specs.Serving.{block_of, chain_decides, is_known_version, refused}
use Rattle.chain_meaning.specs.Steps.{steps_of}
use Rattle.chain_build.specs.Plans.{steps_in}
use Rattle.plain_chain.proofs.Chosen.{asked-decides, both-true, is-none, none-decides, read-decides, some-extra}
use Rattle.plain_chain.specs.Reading.{has_extra}
use Rattle.plain_marks.specs.MeantLaws.{meant-as, means-as}
use Rattle.plain_chain.proofs.deciding.decide.Goals as goal

pub decide_by-requires : goal.decide_by-requires
decide_by-requires c =
    let read = c.args.read.now in
    let q = c.args.query.now in
    let known : is_known_version c.args.opt ≡ true = search rules in
    let own : nat_eq c.args.class classes.IN ≡ true = search rules in
    is-none c.in-Some.chain.now.extras
    (some-extra read.chains read.blocks c.requires.whole.extras (picked read.blocks q.local q.name) c.in-Some.chain.now c.in-Some.ensures
    ∙ both-true (is_known_version c.args.opt) (nat_eq c.args.class classes.IN) (has_extra (block_of read.blocks q)) known own c.requires.own)

pub returns : goal.returns
returns c said =
    let read = c.args.read.now in
    let files = read.files.now in
    let q = c.args.query.now in
    let known : is_known_version c.args.opt ≡ true = search rules in
    let own : nat_eq c.args.class classes.IN ≡ true = search rules in
    meant-as c.decide_by.result (chain_decides (steps_in said c.in-Some.chain.now) q) _ c.args.marks.now
    (λ some. sym (read-decides said files read.chains read.blocks (c.requires.whole.chains said) (picked read.blocks q.local q.name) q some c.in-Some.chain.now c.in-Some.ensures
    ∙ asked-decides c.args.opt c.args.class (steps_of said files) read.blocks q some known own))
    (c.decide_by.ensures said)

pub returns-in_default : goal.returns-in_default
returns-in_default c said =
    let read = c.args.read.now in
    let files = read.files.now in
    let q = c.args.query.now in
    let known : is_known_version c.args.opt ≡ true = search rules in
    let own : nat_eq c.args.class classes.IN ≡ true = search rules in
    means-as (λ left. Done refused left) _ c.args.marks.now c.bare-in_default.result
    (λ some. sym (none-decides said files read.chains read.blocks (c.requires.whole.chains said) (picked read.blocks q.local q.name) q some c.in_default.ensures
    ∙ asked-decides c.args.opt c.args.class (steps_of said files) read.blocks q some known own))
    c.bare-in_default.ensures
