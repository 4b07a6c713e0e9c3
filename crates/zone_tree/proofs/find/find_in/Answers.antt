use Rattle.std.proofs.Common.{sym, ap, ◌∙◌, ◌++◌, take, subst}
use Rattle.std.specs.List.{filter}
use Rattle.std.proofs.Math.Seq.{take-append_seam}
use Rattle.std.proofs.lemmas.Result.{IfOk-weaker}
use Rattle.zone_lookup.specs.ZoneAnswer.{alias_found, Finds}
use Rattle.zone_tree.specs.Sets.{is_kind, picked}
use Rattle.zone_tree.proofs.Filling.{set_finds, no_alias_kind, alias_kind, kind_set, alias_found_in}
use Rattle.zone_tree.proofs.find.find_in.Goals as goal

pub returns-then-not-is_aliased_kind : goal.returns-then-not-is_aliased_kind
returns-then-not-is_aliased_kind c =
    let node = picked c.args.records.now c.args.set.now in
    set_finds node c.args.kind _ _ _ (no_alias_kind node c.args.kind _ c.is_aliased_kind.ensures c.if-not-is_aliased_kind.true) c.no_target.ensures.absent c.no_target.ensures.target c.in_ok-copy_asked.ensures.ok

pub returns-then-branch : goal.returns-then-branch
returns-then-branch c =
    let node = picked c.args.records.now c.args.set.now in
    let set = filter (is_kind 5) node in
    let alias = alias_kind node c.args.kind _ _ c.is_aliased_kind.ensures c.if-not-is_aliased_kind.false c.in_ok-copy_and_tell.ensures.alias ∙ c.if-branch.true in
    let back = (λ j. take (c.len-start.ensures j) (c.in_ok-copy_and_tell.ensures.copied j)) ∙ take-append_seam c.args.out.now (filter (is_kind c.args.kind) node) in
    IfOk-weaker c.find_alias.result _ _ (λ find f. alias_found_in node c.args.kind find c.args.out.now c.find_alias.new.out alias (subst (λ rs. Finds (alias_found set) find rs c.find_alias.new.out) back f)) c.find_alias.ensures

pub returns : goal.returns
returns c =
    let node = picked c.args.records.now c.args.set.now in
    let alias = alias_kind node c.args.kind _ _ c.is_aliased_kind.ensures c.if-not-is_aliased_kind.false c.in_ok-copy_and_tell.ensures.alias ∙ c.if-branch.false in
    let set = kind_set node c.args.kind _ c.is_aliased_kind.ensures c.if-not-is_aliased_kind.false in
    set_finds node c.args.kind _ _ _ alias c.no_target-2.ensures.absent c.no_target-2.ensures.target (c.in_ok-copy_and_tell.ensures.copied ∙ ap (λ rs. c.args.out.now ++ rs) (sym set))
