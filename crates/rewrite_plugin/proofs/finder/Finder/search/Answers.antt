use Rattle.std.proofs.Common.{refl}
use Rattle.rewrite_plugin.proofs.Finding.{finds_none, finds_some}
use Rattle.rewrite_plugin.proofs.finder.Finder.search.Goals as goal

pub returns-in-Some-clause-found : goal.returns-in-Some-clause-found
returns-in-Some-clause-found c =
    let a = rw c.in-Some.is at c.in_ok-find.ensures in
    let small = rw c.as_bytes.ensures.value at c.are_bytes.ensures in
    rw (← c.self.view_is) (finds_some c.self.inside.pattern c.self.inside.text c.args.text.now c.self.invariant small c.find.new.scratch a.0 a.1 (a.2.keeps refl)).is

pub returns-in-Some-clause-keeps : goal.returns-in-Some-clause-keeps
returns-in-Some-clause-keeps c =
    let a = rw c.in-Some.is at c.in_ok-find.ensures in
    let small = rw c.as_bytes.ensures.value at c.are_bytes.ensures in
    rw (← c.self.view_is) (finds_some c.self.inside.pattern c.self.inside.text c.args.text.now c.self.invariant small c.find.new.scratch a.0 a.1 (a.2.keeps refl)).keeps

pub returns-in-None-clause-found : goal.returns-in-None-clause-found
returns-in-None-clause-found c =
    let a = rw c.in-None.is at c.in_ok-find.ensures in
    let small = rw c.as_bytes.ensures.value at c.are_bytes.ensures in
    rw (← c.self.view_is) (finds_none c.self.inside.pattern c.self.inside.text c.args.text.now c.self.invariant small c.find.new.scratch a).is

pub returns-in-None-clause-keeps : goal.returns-in-None-clause-keeps
returns-in-None-clause-keeps c =
    let a = rw c.in-None.is at c.in_ok-find.ensures in
    let small = rw c.as_bytes.ensures.value at c.are_bytes.ensures in
    rw (← c.self.view_is) (finds_none c.self.inside.pattern c.self.inside.text c.args.text.now c.self.invariant small c.find.new.scratch a).keeps
