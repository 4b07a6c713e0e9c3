-- Laws of a worker's run, for those who know where its pins' chains came from.
use Rattle.std.proofs.Common.{◌≡◌, ◌<◌, ℕ, List, [], ◌∷◌, Some, slice_get, sym, ap, subst, inl, inr}
use Rattle.std.specs.List.{AllByRecursion}
use Rattle.outside.specs.declared.datagram.Datagram.{Datagram}
use Rattle.outside.specs.declared.mark.Mark.{Mark}
use Rattle.corefile_blocks.specs.declared.bundle.Bundle.{Bundle}
use Rattle.chain_meaning.specs.declared.served.Served.{Served}
use Rattle.chain_meaning.specs.declared.served.Served.TheVariants.{Reply, Silent, NoMemory}
use Rattle.chain_meaning.specs.Serving.{Serves}
use Rattle.pin_table.specs.declared.table.PinTable.{PinTable}
use Rattle.pin_table.specs.declared.views.PassView.{PassView}
use Rattle.pin_table.specs.{IsPassOf, Keeps, pass_of}
use Rattle.pin_table.specs.Opening.{new_pass}
use Rattle.chain_build.specs.declared.chain.Chain.{Chain}
use Rattle.plugin_api.specs.declared.extra.Extra as extra
use Rattle.plugin_api.specs.declared.rulebook.Rulebook as rulebook
use Rattle.chain_build.specs.{chain_identity, chain_log, plans_of}
use Rattle.chain_meaning.specs.{Ground, terms_on}
use Rattle.query_worker.specs.declared.worker.Worker.{Worker}
use Rattle.query_worker.specs.Pins.{PastPin, OfPin, IsPinFor, IsOfPass, IsOf, AreOf, IsReady}
use Rattle.run_meaning.specs.Workers.{Worked}
use Rattle.query_worker.specs.Tally.{IsIdle}
use Rattle.run_meaning.specs.Turn.{Turn, failed, unread, replied, silenced, starved, IsLawful}
use Rattle.run_meaning.specs.Turn.{IsPublished}
use Rattle.run_meaning.specs.Workers.{WorkerRun}

-- what holds of each holds of each in the other way too
pub all_as : (P Q : Turn → Type 0) → ((turn : Turn) → P turn → Q turn) → (turns : List Turn)
    → AllByRecursion P turns
    → AllByRecursion Q turns
all_as P Q to [] are = tt
all_as P Q to (turn ∷ turns) are = (to turn are.0, all_as P Q to turns are.1)

-- turns that are lawful in one way, and so in another
abbrev pub run_as : {most : ℕ} {pinned : List ℕ} {worked : Worked} {journal : List Mark}
    (P Q : Turn → Type 0)
    → ((turn : Turn) → P turn → Q turn)
    → WorkerRun P most pinned worked journal
    → WorkerRun Q most pinned worked journal
run_as P Q to run = record {
  turns = run.turns;
  ending = run.ending;
  told = run.told;
  are = record {
    lawful_are = all_as P Q to run.turns run.are.lawful_are;
    in_order = run.are.in_order;
    datagrams_are = run.are.datagrams_are;
    starved_are = run.are.starved_are;
  };
  at_most = run.at_most;
  none_behind = run.none_behind;
  pinned_are = run.pinned_are;
  seen_all = run.seen_all;
  ends = run.ends;
}

module _ {B E : Type 0} {b : rulebook.Ghosts B} {e : extra.Ghosts E} where
  -- by a pin whose chain is of a published bundle
  published_by : (bundles : List Bundle) (basis : Ground) (pin : PastPin (Chain B E b e))
      (serial : ℕ)
      (d : Datagram)
      (marks : List Mark) (served : Served)
      → IsOf bundles basis pin
      → IsPinFor serial d marks served pin
      → IsPublished bundles serial
      (λ bundle. Serves bundle (terms_on b.taken b.said basis) d marks served)
  published_by bundles basis pin serial d marks served of is = record {
    bundle = (plans_of pin.given).bundle;
    at = subst (λ (n : ℕ). slice_get bundles n ≡ Some (plans_of pin.given).bundle) is.serial_is of.0;
    is = subst (λ (g : Ground). Serves (plans_of pin.given).bundle
        (terms_on b.taken b.said g) d marks
        served) of.1 is.serves;
  }

  -- by one of the pins whose chains are
  published_of : (bundles : List Bundle) (basis : Ground) (pins : List (PastPin (Chain B E b e)))
      (serial : ℕ)
      (d : Datagram)
      (marks : List Mark) (served : Served)
      → AreOf bundles basis pins
      → OfPin pins (IsPinFor serial d marks served)
      → IsPublished bundles serial
      (λ bundle. Serves bundle (terms_on b.taken b.said basis) d marks served)
  published_of bundles basis [] serial d marks served are is = absurd is
  published_of bundles basis (pin ∷ pins) serial d marks served are (inl here) =
      published_by bundles basis pin serial d marks served are.0 here
  published_of bundles basis (pin ∷ pins) serial d marks served are (inr there) =
      published_of bundles basis pins serial d marks served are.1 there

  -- a turn under one of these pins is lawful where each pin's chain is of the published bundle of
  -- its serial
  pub lawful_of : (bundles : List Bundle) (basis : Ground) (pins : List (PastPin (Chain B E b e)))
      → AreOf bundles basis pins
      → (turn : Turn)
      → IsOfPass pins turn
      → IsLawful bundles (terms_on b.taken b.said basis) turn
  lawful_of bundles basis pins are failed is = tt
  lawful_of bundles basis pins are unread is = tt
  lawful_of bundles basis pins are (replied serial d marks reply out) is =
      published_of bundles basis pins serial d marks (Reply reply) are is
  lawful_of bundles basis pins are (silenced serial d marks why) is =
      published_of bundles basis pins serial d marks (Silent why) are is
  lawful_of bundles basis pins are (starved serial d marks) is =
      published_of bundles basis pins serial d marks NoMemory are is

  -- a worker that has done nothing yet is ready where its pass is a new one of the table
  pub ready_of : {S N K : Type 0} (table : PinTable (Chain B E b e) N K) (worker : Worker S B E b e)
      (number seen : ℕ)
      → IsPassOf table worker.pass
      → pass_of worker.pass ≡ new_pass number seen
      → 0 < seen
      → IsIdle worker.tally
      → IsReady table worker
  ready_of table worker number seen own fresh some idle = record {
    rests = record {
      own = own;
      idle = ap (λ (q : PassView (Chain B E b e)). q.held) fresh;
      kept = subst (λ (q : PassView (Chain B E b e)). Keeps chain_identity chain_log q.turns)
          (sym fresh) tt;
    };
    unused = ap (λ (q : PassView (Chain B E b e)). q.turns) fresh;
    settled = ap (λ (q : PassView (Chain B E b e)). q.taken) fresh;
    published = subst (λ (q : PassView (Chain B E b e)). 0 < q.seen) (sym fresh) some;
    idle = idle;
  }
