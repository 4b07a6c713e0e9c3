-- A zone's records, entry by entry.
use Rattle.std.proofs.Common.{◌≡◌, ◌+◌, ◌<◌, ℕ, List, ◌∷◌, length, drop, Result, Ok, Err, sym, ap, ◌∙◌}
use Rattle.std.proofs.Math.ListN.{get_or}
use Rattle.std.proofs.lemmas.List.{drop_more}
use Rattle.dns_data.specs.Record.{RecordData}
use Rattle.zone_file.specs.declared.entry.End.{End}
use Rattle.zone_file.specs.declared.fault.ZoneFault.{ZoneFault}
use Rattle.zone_file.specs.declared.fault.ZoneFault.TheVariants as fault
use Rattle.zone_file.specs.declared.state.Reading.{Reading}
use Rattle.zone_file.specs.declared.state.Statement.{Statement}
use Rattle.zone_file.specs.Entries.{EntryData}
use Rattle.zone_file.specs.Zones.{Agrees, Steps, and_then, as_zone, kept_by, moved, progress, records_from, statement_of, step}

-- the entries from a place on
pub entries_at : (entries : List EntryData) (at : ℕ) (entry : EntryData) → at < length entries → entry ≡ get_or entries at entry → drop at entries ≡ entry ∷ drop (at + 1) entries
entries_at entries at entry h is = drop_more entries at entry h ∙ ap (λ (e : EntryData). e ∷ drop (at + 1) entries) (sym is)

said_then : (zone : List (List ℕ)) (reading : Reading) (kept : List RecordData) (entry : EntryData) (said : Statement) → statement_of reading entry ≡ Ok said
    → step zone reading kept entry ≡ and_then (λ more. Ok (progress (moved reading said) more)) (kept_by zone entry.line kept said)
said_then zone reading kept entry said is =
    ap (and_then (λ s. and_then (λ more. Ok (progress (moved reading s) more)) (kept_by zone entry.line kept s))) is

-- an entry that was read and kept
pub step_behind : (zone : List (List ℕ)) (reading new : Reading) (kept : List RecordData) (entry : EntryData) (said : Statement) (result : Result (List RecordData) ZoneFault)
    → statement_of reading entry ≡ Ok said → new ≡ moved reading said → Agrees (kept_by zone entry.line kept said) result → Steps (step zone reading kept entry) new result
step_behind zone reading new kept entry said (Ok more) is moves keeps =
    said_then zone reading kept entry said is ∙ ap (and_then (λ more. Ok (progress (moved reading said) more))) keeps ∙ ap (λ (r : Reading). Ok (progress r more)) (sym moves)
step_behind zone reading new kept entry said (Err (fault.Bad line cause)) is moves keeps =
    said_then zone reading kept entry said is ∙ ap (and_then (λ more. Ok (progress (moved reading said) more))) keeps
step_behind zone reading new kept entry said (Err fault.TooMany) is moves keeps =
    said_then zone reading kept entry said is ∙ ap (and_then (λ more. Ok (progress (moved reading said) more))) keeps
step_behind zone reading new kept entry said (Err fault.NoMemory) is moves keeps = tt

-- an entry that says nothing
pub step_fails : (zone : List (List ℕ)) (reading new : Reading) (kept : List RecordData) (entry : EntryData) (cause : ZoneFault) → Agrees (statement_of reading entry) (Err cause)
    → Steps (step zone reading kept entry) new (Err cause)
step_fails zone reading new kept entry (fault.Bad line cause) is = ap (and_then (λ s. and_then (λ more. Ok (progress (moved reading s) more)) (kept_by zone entry.line kept s))) is
step_fails zone reading new kept entry fault.TooMany is = ap (and_then (λ s. and_then (λ more. Ok (progress (moved reading s) more)) (kept_by zone entry.line kept s))) is
step_fails zone reading new kept entry fault.NoMemory is = tt

records_then : (zone : List (List ℕ)) (end : End) (reading : Reading) (kept : List RecordData) (rest others : List EntryData) (entry : EntryData) → rest ≡ entry ∷ others
    → records_from zone end reading kept rest ≡ and_then (λ next. records_from zone end next.reading next.kept others) (step zone reading kept entry)
records_then zone end reading kept rest others entry is = ap (records_from zone end reading kept) is

-- one more entry
pub records_step : (zone : List (List ℕ)) (end : End) (reading new : Reading) (kept more : List RecordData) (rest others : List EntryData) (entry : EntryData)
    (whole : Result (List RecordData) ZoneFault) → records_from zone end reading kept rest ≡ whole → rest ≡ entry ∷ others
    → step zone reading kept entry ≡ Ok (progress new more) → records_from zone end new more others ≡ whole
records_step zone end reading new kept more rest others entry whole says is stepped =
    sym (records_then zone end reading kept rest others entry is ∙ ap (and_then (λ next. records_from zone end next.reading next.kept others)) stepped) ∙ says

-- the first refusal
pub records_fail : (zone : List (List ℕ)) (end : End) (reading new : Reading) (kept : List RecordData) (rest others : List EntryData) (entry : EntryData)
    (whole : Result (List RecordData) ZoneFault) (cause : ZoneFault) → records_from zone end reading kept rest ≡ whole → rest ≡ entry ∷ others
    → Steps (step zone reading kept entry) new (Err cause) → Agrees (as_zone zone whole) (Err cause)
records_fail zone end reading new kept rest others entry whole (fault.Bad line cause) says is stepped =
    ap (as_zone zone) (sym says ∙ records_then zone end reading kept rest others entry is ∙ ap (and_then (λ next. records_from zone end next.reading next.kept others)) stepped)
records_fail zone end reading new kept rest others entry whole fault.TooMany says is stepped =
    ap (as_zone zone) (sym says ∙ records_then zone end reading kept rest others entry is ∙ ap (and_then (λ next. records_from zone end next.reading next.kept others)) stepped)
records_fail zone end reading new kept rest others entry whole fault.NoMemory says is stepped = tt
