-- Which chain a chain is, and what it has noted. This server's own rule.
use Rattle.std.specs.Prelude.{◌≡◌, ℕ, ◌+◌, ◌==◌, List, [], ◌∷◌, ◌++◌, true, false, Option, Some, None, All, if◌then◌else◌}
use Rattle.pin_table.specs.declared.views.Turn.{Turn}
use Rattle.pin_table.specs.declared.views.Taken.{Taken}
use Rattle.pin_table.specs.declared.views.Drain.{Drain}
use Rattle.pin_table.specs.declared.views.Plan.{Plan}
use Rattle.pin_table.specs.Known.{filled_at}

-- its serial, its worker, and what else tells it from other chains
pub record Identity (K : Type 0) : Type 0 where
  pub serial : ℕ
  pub worker : ℕ
  pub kind : K

-- an identity by its parts
abbrev pub tag : {K : Type 0} → ℕ → ℕ → K → Identity K
tag serial worker kind = record { serial = serial; worker = worker; kind = kind }

module _ {N : Type 0} where
  -- the log has as many parts as before, and each begins as it was
  abbrev pub Grows : List (List N) → List (List N) → Type 0
  Grows [] [] = Unit {0}
  Grows [] (y ∷ ys) = true ≡ false
  Grows (x ∷ xs) [] = true ≡ false
  Grows (x ∷ xs) (y ∷ ys) = ((new : List N) × (y ≡ x ++ new)) × Grows xs ys

  -- no part of the log has a note
  abbrev pub IsEmpty : List (List N) → Type 0
  IsEmpty log = All (λ part. part ≡ []) log

  -- the log is the one that was kept, or an empty one where none was
  abbrev pub IsKeptLog : Option (List (List N)) → List (List N) → Type 0
  IsKeptLog None log = IsEmpty log
  IsKeptLog (Some kept) log = log ≡ kept

module _ {C I : Type 0} (identity : C → I) where
  -- each turn gave home the chain that it was given
  abbrev pub AreSame : List (Turn C) → Type 0
  AreSame [] = Unit {0}
  AreSame (t ∷ ts) = (identity t.home ≡ identity t.given) × AreSame ts

  -- it is the chain that was filled for its serial and worker
  abbrev pub IsNamed : List (List C) → Drain C → Type 0
  IsNamed filled d =
      (first : C) × (filled_at filled d.serial d.worker ≡ Some first)
      × (identity d.chain ≡ identity first)

  -- so is each chain that came home
  abbrev pub AreNamed : Plan C → Type 0
  AreNamed p = All (IsNamed p.past.filled) p.drains

module _ {C N : Type 0} (log : C → List (List N)) where
  -- the log that these turns keep of a serial: as the newest of them gave it home
  abbrev pub log_kept : ℕ → List (Turn C) → Option (List (List N))
  log_kept serial [] = None
  log_kept serial (t ∷ ts) = if t.serial == serial then Some (log t.home) else log_kept serial ts

module _ {C I N : Type 0} (identity : C → I) (log : C → List (List N)) where
  -- the chain may end the turn that has taken: it is that chain, and its log begins with that log
  abbrev pub Follows : Option (Taken C) → C → Type 0
  Follows None c = Unit {0}
  Follows (Some t) c = (identity c ≡ identity t.chain) × Grows (log t.chain) (log c)

  -- each turn kept the identity, and its log only grew
  abbrev pub Keeps : List (Turn C) → Type 0
  Keeps [] = Unit {0}
  Keeps (t ∷ ts) =
      (identity t.home ≡ identity t.given) × Grows (log t.given) (log t.home) × Keeps ts

module _ {C K N : Type 0} (identity : C → Identity K) (log : C → List (List N)) where
  -- chains of this serial, in order of worker from this one on, with empty logs
  abbrev pub AreNew : ℕ → ℕ → List C → Type 0
  AreNew serial worker [] = Unit {0}
  AreNew serial worker (c ∷ cs) =
      ((identity c).serial ≡ serial) × ((identity c).worker ≡ worker) × IsEmpty (log c)
      × AreNew serial (worker + 1) cs

  -- the chains of all serials from this one on, each as it was filled
  abbrev pub AreFilled : ℕ → List (List C) → Type 0
  AreFilled serial [] = Unit {0}
  AreFilled serial (cs ∷ css) = AreNew serial 0 cs × AreFilled (serial + 1) css

  -- It is the chain that was filled for its serial and worker, with the log that these turns keep
  pub record IsKept (filled : List (List C)) (turns : List (Turn C)) (d : Drain C) : Type 0 where
    pub serial : (identity d.chain).serial ≡ d.serial
    pub worker : (identity d.chain).worker ≡ d.worker
    pub first : (first : C) × (filled_at filled d.serial d.worker ≡ Some first)
        × (identity d.chain ≡ identity first)
    pub kept : IsKeptLog (log_kept log d.serial turns) (log d.chain)

  -- each pin gave the chain that was filled, with the log that the turns before it kept
  abbrev pub AreGiven : List (List C) → ℕ → List (Turn C) → Type 0
  AreGiven filled worker [] = Unit {0}
  AreGiven filled worker (t ∷ ts) =
      IsKept filled ts (record { serial = t.serial; worker = worker; chain = t.given })
      × AreGiven filled worker ts
