-- The marks of a turn that took a datagram.
use Rattle.std.proofs.Common.{◌≡◌, ◌≤◌, ℕ, ◌+◌, [], ◌∷◌, Some, refl, ap, ◌∙◌}
use Rattle.outside.specs.declared.datagram.Datagram.{Datagram}
use Rattle.outside.specs.declared.mark.Mark.TheVariants.{Got, Pinned, Unpinned}
use Rattle.outside.specs.Journals.{adds-then}
use Rattle.outside.specs.Marks.{Adds, Grows}
use Rattle.outside.specs.States.{SideState}
use Rattle.pin_table.specs.declared.views.PassView.{PassView}
use Rattle.pin_table.specs.{IsPinnedOn, unpinned_pass}
use Rattle.pin_table.specs.Steps.{idle_pass}
use Rattle.chain_meaning.specs.declared.served.Served.{Served}
use Rattle.chain_meaning.specs.declared.served.Served.TheVariants.{Reply, Silent, NoMemory}
use Rattle.chain_build.specs.declared.chain.Chain.{Chain}
use Rattle.plugin_api.specs.declared.extra.Extra as extra
use Rattle.plugin_api.specs.declared.rulebook.Rulebook as rulebook
use Rattle.chain_build.specs.{TellsServing, chain_identity, chain_log, server_of, serving}
use Rattle.query_worker.specs.declared.turn.Turned.{Turned}
use Rattle.run_meaning.specs.Turn.{replied, silenced, starved}
use Rattle.query_worker.specs.Worker.{AddsTurn, SendsServed, pin_of}

module _ {B E : Type 0} {bk : rulebook.Ghosts B} {ex : extra.Ghosts E} where
  -- a pin of this serial gave the chain, and it came home: what the pass knows then
  pub record IsOver (before : PassView (Chain B E bk ex)) (serial : ℕ) (chain home : (Chain B E bk ex)) (after : PassView (Chain B E bk ex)) : Type 0 where
    pub same : chain_identity home ≡ chain_identity chain
    pub newest : before.seen ≤ serial + 1
    pub pass : after ≡ idle_pass before.worker (pin_of serial chain home ∷ before.turns) (serial + 1)

  -- behind pin and unpin
  pub over : {q r s : PassView (Chain B E bk ex)} {chain home : (Chain B E bk ex)} {serial : ℕ} → (p : IsPinnedOn q serial chain r) → chain_identity home ≡ chain_identity chain → s ≡ unpinned_pass r (Some home) → IsOver q serial chain home s
  over {home = home} p same back = record { same = same; newest = p.newest; pass = back ∙ ap (λ (x : PassView (Chain B E bk ex)). unpinned_pass x (Some home)) p.then }

  -- pin, what serving made and gave, unpin
  pub answered : {q r : PassView (Chain B E bk ex)} {chain home : (Chain B E bk ex)} {serial : ℕ} {d : Datagram} {a b s c e : SideState} (served : Served) (result : Turned) → IsOver q serial chain home r → Adds a b (Pinned serial ∷ [])
      → TellsServing (server_of chain) d served (serving b (chain_log chain)) (serving s (chain_log home)) → SendsServed s c serial served result → Adds c e (Unpinned serial ∷ []) → Grows a e (λ marks. AddsTurn q r result (Got d ∷ marks))
  answered {chain = chain} {home = home} {serial = serial} {d = d} (Reply reply) result is pinned serves sends unpinned = rw sends.0 (record {
    marks = _;
    told = adds-then pinned (adds-then serves.told (adds-then sends.1.told unpinned));
    are = record { turn = replied serial d serves.marks reply sends.1.out; told = refl; chain = chain; home = home; same = is.same; by_pin = record { serial_is = refl; serves = serves.serves; logs = serves.logs }; newest = is.newest; pass = is.pass; starved_are = refl };
  })
  answered {chain = chain} {home = home} {serial = serial} {d = d} (Silent why) result is pinned serves sends unpinned = rw sends.0 (record {
    marks = _;
    told = adds-then pinned (adds-then serves.told (adds-then sends.1 unpinned));
    are = record { turn = silenced serial d serves.marks why; told = refl; chain = chain; home = home; same = is.same; by_pin = record { serial_is = refl; serves = serves.serves; logs = serves.logs }; newest = is.newest; pass = is.pass; starved_are = refl };
  })
  answered {chain = chain} {home = home} {serial = serial} {d = d} NoMemory result is pinned serves sends unpinned = rw sends.0 (record {
    marks = _;
    told = adds-then pinned (adds-then serves.told (adds-then sends.1 unpinned));
    are = record { turn = starved serial d serves.marks; told = refl; chain = chain; home = home; same = is.same; by_pin = record { serial_is = refl; serves = serves.serves; logs = serves.logs }; newest = is.newest; pass = is.pass; starved_are = refl };
  })
