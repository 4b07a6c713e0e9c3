-- What datagrams may come to under the bundles that a run published. This server's own rule.
use Rattle.std.specs.Prelude.{List, [], ◌∷◌}
use Rattle.std.specs.List.{AllByRecursion}
use Rattle.corefile_blocks.specs.declared.bundle.Bundle.{Bundle}
use Rattle.chain_meaning.specs.Grounds.{Terms}
use Rattle.chain_meaning.specs.Serving.{Serves}
use Rattle.outside.specs.declared.mark.Mark.{Mark}
use Rattle.run_meaning.specs.Turn.{IsLawful, IsPublished, Turn, failed, unread, replied, silenced}
use Rattle.run_meaning.specs.Turn.{starved}
use Rattle.run_meaning.specs.Workers.{Worked, WorkerRun}
use Rattle.std.specs.Prelude.{ℕ}
use Rattle.audit_run.specs.Walks.{Meanings}
use Rattle.audit_run.specs.WorkerRuns.{lawful_by}

abbrev pub served_by : List Bundle → Terms → Meanings
served_by bundles terms serial d marks served =
    IsPublished bundles serial (λ bundle. Serves bundle terms d marks served)

module _ (bundles : List Bundle) (terms : Terms) where
  one_lawful : (turn : Turn) → lawful_by (served_by bundles terms) turn
      → IsLawful bundles terms turn
  one_lawful failed h = tt
  one_lawful unread h = tt
  one_lawful (replied serial d marks reply out) h = h
  one_lawful (silenced serial d marks why) h = h
  one_lawful (starved serial d marks) h = h

  all_lawful : (turns : List Turn) → AllByRecursion (lawful_by (served_by bundles terms)) turns
      → AllByRecursion (IsLawful bundles terms) turns
  all_lawful [] h = tt
  all_lawful (turn ∷ turns) h = (one_lawful turn h.0, all_lawful turns h.1)

  -- a run by these meanings is one of lawful turns
  pub lawful_run : (most : ℕ) (pinned : List ℕ) (worked : Worked) (journal : List Mark)
      → WorkerRun (lawful_by (served_by bundles terms)) most pinned worked journal
      → WorkerRun (IsLawful bundles terms) most pinned worked journal
  lawful_run most pinned worked journal run = record {
    turns = run.turns;
    ending = run.ending;
    told = run.told;
    are = record {
      lawful_are = all_lawful run.turns run.are.lawful_are;
      in_order = run.are.in_order;
      datagrams_are = run.are.datagrams_are;
      starved_are = run.are.starved_are;
    };
    at_most = run.at_most;
    none_behind = run.none_behind;
    pinned_are = run.pinned_are;
    seen_all = run.seen_all;
    ends = run.ends;
  }
