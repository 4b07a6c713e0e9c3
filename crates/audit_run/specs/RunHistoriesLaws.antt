-- Where each part has one history, each cache and each pool of a run has.
use Rattle.std.proofs.Common.{◌+◌, ℕ, Bool, List, [], ◌∷◌, map, ap, ◌∙◌}
use Rattle.outside.specs.declared.mark.Mark.{Mark}
use Rattle.one_history.specs.Calls.{Call, HasHistory}
use Rattle.one_history.specs.Runs.{CacheRun, OneHistory, OneHistoryOfPools, SHARDS, run_marks}
use Rattle.audit_run.specs.declared.part.SharedCall.{SharedCall}
use Rattle.audit_run.specs.declared.part.SharedPart.{SharedPart}
use Rattle.audit_run.specs.declared.record.SideRecord.{SideRecord}
use Rattle.audit_run.specs.Judging.{HaveHistories, told_calls}
use Rattle.audit_run.specs.Parts.{run_of}
use Rattle.audit_run.specs.Rules.{IsLegal}
use Rattle.audit_run.specs.RunHistories.{HasPart, HavePools, HaveShards}

-- a run by its blocks alone
abbrev bare_run : ℕ → List ℕ → CacheRun (Unit {0})
bare_run first blocks = record { reads = tt; first = first; blocks = blocks }

part_has : (sides : List (List (Call Mark))) (parts : List SharedPart) (first : ℕ)
    (blocks : List ℕ) (number : ℕ) (legal : List Mark → Type 0)
    → (has : HasPart parts first blocks number legal)
    → HasHistory (IsLegal has.part.rule) (run_marks (run_of has.part) has.part.part sides)
    → HasHistory legal (run_marks (bare_run first blocks) number sides)
part_has sides parts first blocks number legal has h = record {
  all = h.all;
  each = λ worker serial. h.each worker serial
      ∙ ap (λ f. run_marks (bare_run f has.part.blocks) has.part.part sides worker serial)
      has.first_is
      ∙ ap (λ b. run_marks (bare_run first b) has.part.part sides worker serial) has.blocks_are
      ∙ ap (λ n. run_marks (bare_run first blocks) n sides worker serial) has.number_is;
  is = has.legal_is (map (λ t. t.mark) h.all) h.is;
}

module _ {R : Type 0} (generations : List (List R)) (sides : List SideRecord)
    (calls : List (List SharedCall)) (parts : List SharedPart)
    (have : HaveHistories sides calls parts) where
  -- of caches
  pub one_history : (cached : R → Bool) (legal : R → List Mark → Type 0)
      → HaveShards generations parts cached legal
      → OneHistory cached legal generations (told_calls sides calls)
  one_history cached legal shards = λ run is shard low.
      let has = shards run is shard low in
      let h = part_has (told_calls sides calls) parts run.first run.blocks shard (legal run.reads)
      has (have has.at has.part has.is) in
      record { all = h.all; each = h.each; is = h.is }

  -- and of pools
  pub one_history_of_pools : (pools : R → ℕ) (legal : R → ℕ → List Mark → Type 0)
      → HavePools generations parts pools legal
      → OneHistoryOfPools pools legal generations (told_calls sides calls)
  one_history_of_pools pools legal all = λ serial block reads is pool low.
      let has = all serial block reads is pool low in
      let h = part_has (told_calls sides calls) parts serial (block ∷ []) (SHARDS + pool)
      (legal reads pool) has (have has.at has.part has.is) in
      record { all = h.all; each = h.each; is = h.is }
