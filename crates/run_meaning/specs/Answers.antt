-- What a look for a changed configuration answers, and the marks that it leaves. This server's own
-- rule. The answers are tried in the order in which they stand here.
use Rattle.std.specs.Prelude.{◌≡◌, ◌≢◌, ◌<◌, ℕ, ◌*◌, Bool, List, [], ◌∷◌, ◌++◌, map, Result, Ok}
use Rattle.std.specs.Prelude.{Err}
use Rattle.dns_data.specs.declared.block.Block.{Block}
use Rattle.pin_core.specs.declared.slots.TheConstants as pins
use Rattle.pin_table.specs.declared.free_slots.Left.{Left}
use Rattle.pin_table.specs.{IsPinnedSlot}
use Rattle.outside.specs.declared.mark.WatchMark.{WatchMark}
use Rattle.outside.specs.declared.mark.WatchMark.TheVariants.{Noted, Published}
use Rattle.corefile_blocks.specs.declared.bundle.Bundle.{Bundle}
use Rattle.corefile_blocks.specs.{ArePorts}
use Rattle.corefile_bundle.specs.declared.fault.GatherFault.{GatherFault}
use Rattle.corefile_bundle.specs.declared.fault.GatherFault.TheVariants as unread
use Rattle.corefile_bundle.specs.{OneRead, marks_of}
use Rattle.chain_meaning.specs.declared.refusal.Refusal.{Refusal}
use Rattle.chain_meaning.specs.declared.refusal.Refusal.TheVariants as refusal
use Rattle.chain_meaning.specs.{IsAccepted, IsRefused, Terms}
use Rattle.chain_meaning.specs.Steps.{block_extras}
use Rattle.extra_stock.specs.{asked_by, is_named}
use Rattle.run_meaning.specs.declared.looking.Looking.{Looking}
use Rattle.run_meaning.specs.declared.looking.Looking.TheVariants as looking
use Rattle.run_meaning.specs.Messages.{look_text}

-- what a gathering gave is refused for this
abbrev pub Refuses : Terms → Result Bundle GatherFault → Refusal → Type 0
Refuses terms (Ok bundle) why = IsRefused terms bundle why
Refuses terms (Err unread.NoCorefile) why = why ≡ refusal.NoCorefile
Refuses terms (Err (unread.ReadFailed name)) why = ⊥
Refuses terms (Err (unread.TooMany what number)) why = why ≡ refusal.TooMany what number
Refuses terms (Err unread.NoMemory) why = ⊥

-- two lists of blocks have the same ports
pub record SamePorts (a b : List Block) : Type 0 where
  pub ports : List ℕ
  pub first : ArePorts a ports
  pub second : ArePorts b ports

-- what serves, as far as a look's answer depends on it: the terms of the run, the bundle, its
-- blocks, and how many generations were published
pub record Standing : Type 0 where
  pub terms : Terms
  pub bundle : Bundle
  pub blocks : List Block
  pub published : ℕ

-- the gathering gave a bundle that is accepted and isn't the one that serves
pub record GaveOther (standing : Standing) (gives : Result Bundle GatherFault)
    (P : List Block → Type 0) : Type 0 where
  pub bundle : Bundle
  pub got : gives ≡ Ok bundle
  pub differs : bundle ≢ standing.bundle
  pub blocks : List Block
  pub accepted : IsAccepted standing.terms bundle blocks
  pub is : P blocks

-- another bundle could be published, and each of these slots had open pins
pub record FoundPinned (standing : Standing) (other : List Block) (first second third : Left)
    : Type 0 where
  pub ports : SamePorts other standing.blocks
  pub few : standing.published < pins.MOST_SERIALS
  pub one : IsPinnedSlot first
  pub two : IsPinnedSlot second
  pub three : IsPinnedSlot third

-- another bundle could be published and a slot was free, but it asks for more extras of a name than
-- there were: for one for each of its directives of that name and each worker
pub record FoundShort (standing : Standing) (other : List Block) (name : List ℕ) (asked had : ℕ)
    : Type 0 where
  pub ports : SamePorts other standing.blocks
  pub few : standing.published < pins.MOST_SERIALS
  pub workers : ℕ
  pub asked_is : asked ≡ workers * asked_by (is_named name) (map block_extras other)
  pub short : had < asked

-- what a look answers where the gathering came to this
abbrev pub AnswersLook : Standing → Result Bundle GatherFault → Looking → Type 0
AnswersLook standing gives looking.NoReload = ⊥
AnswersLook standing gives (looking.ReadFailed name) = gives ≡ Err (unread.ReadFailed name)
AnswersLook standing gives looking.Same = gives ≡ Ok standing.bundle
AnswersLook standing gives (looking.Refused why) =
    Refuses standing.terms gives why × (gives ≢ Ok standing.bundle)
AnswersLook standing gives (looking.PortsDiffer kept read) =
    GaveOther standing gives
    (λ other. ArePorts standing.blocks kept × ArePorts other read × (kept ≢ read))
AnswersLook standing gives looking.SerialsSpent =
    GaveOther standing gives
    (λ other. SamePorts other standing.blocks × (standing.published ≡ pins.MOST_SERIALS))
AnswersLook standing gives (looking.AllPinned first second third) =
    GaveOther standing gives (λ other. FoundPinned standing other first second third)
AnswersLook standing gives (looking.StockShort name asked had) =
    GaveOther standing gives (λ other. FoundShort standing other name asked had)
AnswersLook standing gives (looking.Published serial) =
    GaveOther standing gives
    (λ other. SamePorts other standing.blocks
    × (standing.published < pins.MOST_SERIALS) × (serial ≡ standing.published))
AnswersLook standing gives looking.NoMemory = ⊥

-- an empty line is not noted
abbrev pub note_marks : List ℕ → Bool → List WatchMark
note_marks [] flag = []
note_marks (byte ∷ bytes) flag = Noted (byte ∷ bytes) flag ∷ []

abbrev pub publication : Looking → List WatchMark
publication (looking.Published serial) = Published serial ∷ []
publication other = []

-- the marks of a look: its reads, its publication, and the line that notes it, with whether that
-- went out
abbrev pub look_marks : List OneRead → Looking → Bool → List WatchMark
look_marks reads answer flag =
    marks_of reads ++ (publication answer ++ note_marks (look_text answer) flag)
