-- What takes one mark, and what another mark is to it.
use Rattle.std.proofs.Common.{◌≡◌, ℕ, Bool, List, [], ◌∷◌, Option, Result, Ok, Err, IfOk, length, refl}
use Rattle.dns_lists.specs.declared.memory.NoMemory.{NoMemory}
use Rattle.dns_data.specs.Message.{AnswerData}
use Rattle.dns_data.specs.declared.message.Transport.{Transport}
use Rattle.outside.specs.{EntryData}
use Rattle.outside.specs.Meanings.{Meaning, Done, More, Off}
use Rattle.outside.specs.declared.datagram.Outcome.{Outcome}
use Rattle.outside.specs.declared.datagram.Upstream.{Upstream}
use Rattle.outside.specs.declared.entry.InnerMark.{InnerMark}
use Rattle.outside.specs.declared.entry.InnerMark.TheVariants as inner
use Rattle.outside.specs.declared.entry.Key.{Key}
use Rattle.outside.specs.declared.mark.Mark.{Mark}
use Rattle.outside.specs.declared.mark.Mark.TheVariants as mark
use Rattle.chain_meaning.specs.Caching.{take_looked, take_now, take_put}
use Rattle.chain_meaning.specs.Mean.{take_note}
use Rattle.chain_meaning.specs.declared.decision.Decision.{Decision}
use Rattle.forward_plugin.specs.Forward.{take_ask, take_drawn, take_more, take_reported, take_word}
use Rattle.plain_marks.specs.Meant.{IsDone, IsOff, Means}
use Rattle.plain_marks.specs.MeantLaws.{behind-mark}
use Rattle.plain_marks.specs.declared.meant.Meant as declared

module _ {A : Type 0} where
  -- the first mark is taken
  pub one-done : (means : List Mark → Meaning A) (marks : List Mark) (m : Mark) (left : List Mark) (v : A) → marks ≡ m ∷ left → ((rest : List Mark) → means (m ∷ rest) ≡ Done v rest) → IsDone means marks v left
  one-done means marks m left v first all = record { used = m ∷ []; is = first; same = all }

  -- no mark may stand there
  pub none-may : (means : List Mark → Meaning A) (marks : List Mark) → (length marks ≡ 0 → ⊥) → means [] ≡ More → ((m : Mark) (rest : List Mark) → means (m ∷ rest) ≡ Off) → IsOff means marks marks
  none-may means [] some wants off = absurd (some refl)
  none-may means (m ∷ rest) some wants off = record { used = []; bad = m; rest = rest; first = refl; is = refl; wants = wants; off = off m }

module _ {A : Type 0} where
  -- a call behind a mark that is taken
  pub behind-result : (result : Result (declared.Meant A) NoMemory) (f g : List Mark → Meaning A) (marks : List Mark) (x : Mark) (left : List Mark) → marks ≡ x ∷ left → ((other : List Mark) → g (x ∷ other) ≡ f other)
      → IfOk result (Means f left) → IfOk result (Means g marks)
  behind-result (Ok m) f g marks x left is e h = behind-mark f g marks x left m is e h
  behind-result (Err x) f g marks y left is e h = tt

pub no-note : (line : List ℕ) (v : Decision) (m : Mark) → ((other : _) (out : Bool) → m ≡ mark.Noted other out → ⊥) → (rest : List Mark) → take_note line v (m ∷ rest) ≡ Off
no-note line v (mark.Noted other out) differs rest = absurd (differs other out refl)
no-note line v m differs rest = refl

pub no-now : (m : Mark) → ((moment : ℕ) → m ≡ mark.Now moment → ⊥) → (rest : List Mark) → take_now (m ∷ rest) ≡ Off
no-now (mark.Now moment) differs rest = absurd (differs moment refl)
no-now m differs rest = refl

pub no-look : (key : Key) (moment : ℕ) (m : Mark) → ((other : _) (at : ℕ) (found : _) → m ≡ mark.Looked other at found → ⊥) → (rest : List Mark) → take_looked key moment (m ∷ rest) ≡ Off
no-look key moment (mark.Looked other at found) differs rest = absurd (differs other at found refl)
no-look key moment m differs rest = refl

pub no-put : (entry : EntryData) (v : Decision) (m : Mark) → ((key : _) (other : _) (out : Bool) → m ≡ mark.Put key other out → ⊥) → (rest : List Mark) → take_put entry v (m ∷ rest) ≡ Off
no-put entry v (mark.Put key other out) differs rest = absurd (differs key other out refl)
no-put entry v m differs rest = refl

-- marks that aren't inner ones
module _ (m : Mark) (differs : (i : InnerMark) → m ≡ mark.Inner i → ⊥) where
  pub outer-word : (rest : List Mark) → take_word (m ∷ rest) ≡ Off
  outer-word rest = by_mark m differs
    where
      by_mark : (x : Mark) → ((i : InnerMark) → x ≡ mark.Inner i → ⊥) → take_word (x ∷ rest) ≡ Off
      by_mark (mark.Inner i) d = absurd (d i refl)
      by_mark x d = refl

  pub outer-drawn : (rest : List Mark) → take_drawn (m ∷ rest) ≡ Off
  outer-drawn rest = by_mark m differs
    where
      by_mark : (x : Mark) → ((i : InnerMark) → x ≡ mark.Inner i → ⊥) → take_drawn (x ∷ rest) ≡ Off
      by_mark (mark.Inner i) d = absurd (d i refl)
      by_mark x d = refl

  pub outer-reported : (number : ℕ) (answer : Option AnswerData) (rest : List Mark) → take_reported number answer (m ∷ rest) ≡ Off
  outer-reported number answer rest = by_mark m differs
    where
      by_mark : (x : Mark) → ((i : InnerMark) → x ≡ mark.Inner i → ⊥) → take_reported number answer (x ∷ rest) ≡ Off
      by_mark (mark.Inner i) d = absurd (d i refl)
      by_mark x d = refl

  pub outer-ask : (to : Upstream) (by : Transport) (message : List ℕ) (rest : List Mark) → take_ask to by message (m ∷ rest) ≡ Off
  outer-ask to by message rest = by_mark m differs
    where
      by_mark : (x : Mark) → ((i : InnerMark) → x ≡ mark.Inner i → ⊥) → take_ask to by message (x ∷ rest) ≡ Off
      by_mark (mark.Inner i) d = absurd (d i refl)
      by_mark x d = refl

  pub outer-more : (rest : List Mark) → take_more (m ∷ rest) ≡ Off
  outer-more rest = by_mark m differs
    where
      by_mark : (x : Mark) → ((i : InnerMark) → x ≡ mark.Inner i → ⊥) → take_more (x ∷ rest) ≡ Off
      by_mark (mark.Inner i) d = absurd (d i refl)
      by_mark x d = refl

-- inner marks of another kind
pub no-word : (i : InnerMark) → ((word : ℕ) → i ≡ inner.Word word → ⊥) → (rest : List Mark) → take_word (mark.Inner i ∷ rest) ≡ Off
no-word (inner.Word word) differs rest = absurd (differs word refl)
no-word i differs rest = refl

pub no-draw : (i : InnerMark) → ((number down : ℕ) → i ≡ inner.Drawn number down → ⊥) → (rest : List Mark) → take_drawn (mark.Inner i ∷ rest) ≡ Off
no-draw (inner.Drawn number down) differs rest = absurd (differs number down refl)
no-draw i differs rest = refl

pub no-report : (number : ℕ) (answer : Option AnswerData) (i : InnerMark) → ((upstream : ℕ) (agreed : Bool) → i ≡ inner.Reported upstream agreed → ⊥) → (rest : List Mark) → take_reported number answer (mark.Inner i ∷ rest) ≡ Off
no-report number answer (inner.Reported upstream agreed) differs rest = absurd (differs upstream agreed refl)
no-report number answer i differs rest = refl

pub no-ask : (to : Upstream) (by : Transport) (message : List ℕ) (i : InnerMark) → ((other : Upstream) (over : Transport) (sent : _) (came : Outcome) → i ≡ inner.Asked other over sent came → ⊥) → (rest : List Mark)
    → take_ask to by message (mark.Inner i ∷ rest) ≡ Off
no-ask to by message (inner.Asked other over sent came) differs rest = absurd (differs other over sent came refl)
no-ask to by message i differs rest = refl

pub no-more : (i : InnerMark) → ((came : Outcome) → i ≡ inner.More came → ⊥) → (rest : List Mark) → take_more (mark.Inner i ∷ rest) ≡ Off
no-more (inner.More came) differs rest = absurd (differs came refl)
no-more i differs rest = refl
