-- Reading one directive.
use Rattle.std.proofs.Common.{◌≡◌, ◌∙◌, ℕ, List, [], Bool, true, false, Option, Some, None, Result, Ok, Err, ap, refl, subst, sym}
use Rattle.std.specs.Prelude.{◌&&◌, OnOk, if◌then◌else◌}
use Rattle.std.proofs.lemmas.List.Elements.{All-push}
use Rattle.dns_data.specs.declared.directive.Directive.{Directive}
use Rattle.pattern_judging.specs.{IsFault, IsWell, Judgement}
use Rattle.pattern_judging.specs.TasksLaws.{fault-plain, well-plain}
use Rattle.plugin_api.specs.{Takings, is_once, rank_of}
use Rattle.plugin_api.specs.declared.fault.DirectiveWhy.TheVariants as why
use Rattle.plugin_api.specs.declared.ranks.Rank.{Rank}
use Rattle.plugin_api.specs.declared.ranks.Rank.TheVariants as rank
use Rattle.chain_meaning.specs.Accepting.{Behind, directive_refusal, directive_task, extra_refusal, fixed_refusal, rank_patterns, rank_refusal, read_refusal, reader_refusal, stands_in, told}
use Rattle.chain_meaning.specs.Steps.{Context}
use Rattle.chain_meaning.specs.Grounds.{Brought}
use Rattle.chain_meaning.specs.declared.refusal.Refusal.{Refusal}
use Rattle.chain_meaning.specs.declared.refusal.Refusal.TheVariants as refusal
use Rattle.chain_build.specs.declared.fault.CheckFault.{CheckFault}
use Rattle.chain_build.specs.declared.fault.CheckFault.TheVariants as fault
use Rattle.chain_build.specs.declared.places.Places.{Places}
use Rattle.chain_build.specs.Places.{AreTaken, ReadsMore, placed_by}
use Rattle.chain_build.specs.Reading.{IsFixed, ReadsAs, ReadsExtra, ReadsRank, reader_task}

by_test : (t : Bool) (x y : Option Refusal) (f : Bool) → t ≡ f → (if t then x else y) ≡ (if f then x else y)
by_test t x y f e = ap (λ (s : Bool). if s then x else y) e

-- the directive of an extra: the program brings none of its name, or its judge refuses it, or takes it
pub not_brought : (brought : Brought) (d : Directive) → brought.named d.name ≡ false → extra_refusal brought d ≡ Some (refusal.Unknown d.line)
not_brought brought d e = by_test (brought.named d.name) (if brought.taken d.name d then None else Some (refusal.Directive d.line why.Extra)) (Some (refusal.Unknown d.line)) false e

judged : (brought : Brought) (d : Directive) (t : Bool) → brought.named d.name ≡ true → brought.taken d.name d ≡ t → extra_refusal brought d ≡ (if t then None else Some (refusal.Directive d.line why.Extra))
judged brought d t e f =
    by_test (brought.named d.name) (if brought.taken d.name d then None else Some (refusal.Directive d.line why.Extra)) (Some (refusal.Unknown d.line)) true e
    ∙ by_test (brought.taken d.name d) None (Some (refusal.Directive d.line why.Extra)) t f

pub not_taken : (brought : Brought) (d : Directive) → brought.named d.name ≡ true → brought.taken d.name d ≡ false → extra_refusal brought d ≡ Some (refusal.Directive d.line why.Extra)
not_taken brought d e f = judged brought d false e f

pub extra_read : (brought : Brought) (b : Behind) (d : Directive) (old new : Places) (last : Option (List ℕ)) (result : Result (Unit {0}) CheckFault) → rank_of d.name ≡ None → ReadsExtra brought d old new result
    → ReadsMore (directive_task brought b d) (new ≡ placed_by (rank_of d.name) b.context d old) last result
extra_read brought b d old new last (Ok done) e h =
    (well-plain (directive_task brought b d) (ap (λ o. rank_patterns o d) e) (λ j. ap (λ o. rank_refusal j brought o b d) e ∙ judged brought d true h.0 h.1), h.2 ∙ ap (λ o. placed_by o b.context d old) (sym e))
extra_read brought b d old new last (Err (fault.Refused why)) e h = fault-plain told (directive_task brought b d) last why (λ j. ap (λ o. rank_refusal j brought o b d) e ∙ h)
extra_read brought b d old new last (Err fault.NoMemory) e h = tt

-- and what is read of others leaves what was taken of extras
pub extra_taken : (brought : Brought) (d : Directive) (old new : Places) (result : Result (Unit {0}) CheckFault) → ReadsExtra brought d old new result
    → OnOk result (AreTaken brought.taken old.extras → AreTaken brought.taken new.extras)
extra_taken brought d old new (Ok done) h = λ were. subst (λ (p : Places). AreTaken brought.taken p.extras) (sym h.2) (All-push (λ (e : Directive). brought.taken e.name e ≡ true) old.extras d were h.1)
extra_taken brought d old new (Err e) h = tt

extras_kept : (r : Rank) (c : Context) (d : Directive) (p : Places) → (placed_by (Some r) c d p).extras ≡ p.extras
extras_kept rank.Acl c d p = refl
extras_kept rank.Rewrite c d p = refl
extras_kept rank.Template c d p = refl
extras_kept rank.Hosts c d p = refl
extras_kept rank.File c d p = refl
extras_kept rank.Forward c d p = refl
extras_kept rank.Errors c d p = refl
extras_kept rank.Log c d p = refl
extras_kept rank.Any c d p = refl
extras_kept rank.Whoami c d p = refl
extras_kept other c d p = refl

pub others_taken : (taken : Takings) (r : Rank) (c : Context) (d : Directive) (old new : Places) (result : Result (Unit {0}) CheckFault) → OnOk result (new ≡ placed_by (Some r) c d old)
    → OnOk result (AreTaken taken old.extras → AreTaken taken new.extras)
others_taken taken r c d old new (Ok done) is = λ were. subst (AreTaken taken) (sym (ap (λ (p : Places). p.extras) is ∙ extras_kept r c d old)) were
others_taken taken r c d old new (Err e) is = tt

module _ (brought : Brought) (r : Rank) (b : Behind) (d : Directive) (e : rank_of d.name ≡ Some r) where
  known : (j : Judgement) → directive_refusal j brought b d ≡ read_refusal j (is_once r && stands_in b.before d.name) r b d
  known j = ap (λ o. rank_refusal j brought o b d) e

  pub twice : (last : Option (List ℕ)) → (is_once r && stands_in b.before d.name) ≡ true → IsFault told (directive_task brought b d) last (refusal.Directive d.line why.Twice)
  twice last second = fault-plain told (directive_task brought b d) last (refusal.Directive d.line why.Twice)
      (λ j. known j ∙ by_test (is_once r && stands_in b.before d.name) (Some (refusal.Directive d.line why.Twice)) (reader_refusal j r b d) true second)

  -- else it is read
  pub as_read : (is_once r && stands_in b.before d.name) ≡ false → reader_task r b d ≡ directive_task brought b d
  as_read first = sym (λ i. record {
    number = b.patterns;
    patterns = ap (λ o. rank_patterns o d) e i;
    fault = λ j. (known j ∙ by_test (is_once r && stands_in b.before d.name) (Some (refusal.Directive d.line why.Twice)) (reader_refusal j r b d) false first) i;
  })

-- and what its reader says is said of the directive
pub reads_on : (brought : Brought) (r : Rank) (b : Behind) (d : Directive) (old new : Places) (last : Option (List ℕ)) (result : Result (Unit {0}) CheckFault) → rank_of d.name ≡ Some r
    → (is_once r && stands_in b.before d.name) ≡ false → ReadsRank r b d last result → OnOk result (new ≡ placed_by (Some r) b.context d old) → ReadsMore (directive_task brought b d) (new ≡ placed_by (rank_of d.name) b.context d old) last result
reads_on brought r b d old new last (Ok done) e first h put = (subst IsWell (as_read brought r b d e first) h, put ∙ ap (λ o. placed_by o b.context d old) (sym e))
reads_on brought r b d old new last (Err (fault.Refused why)) e first h put = subst (λ t. IsFault told t last why) (as_read brought r b d e first) h
reads_on brought r b d old new last (Err fault.NoMemory) e first h put = tt

-- a rank without patterns
pub is_fixed : (r : Rank) → (r ≡ rank.Rewrite → ⊥) → (r ≡ rank.Template → ⊥) → IsFixed r
is_fixed rank.Rewrite p q = absurd (p refl)
is_fixed rank.Template p q = absurd (q refl)
is_fixed other p q = tt

fixed_reader : (r : Rank) (j : Judgement) (b : Behind) (d : Directive) → IsFixed r → reader_refusal j r b d ≡ fixed_refusal r b d
fixed_reader rank.Rewrite j b d fixed = absurd fixed
fixed_reader rank.Template j b d fixed = absurd fixed
fixed_reader other j b d fixed = refl

fixed_patterns : (r : Rank) (d : Directive) → IsFixed r → rank_patterns (Some r) d ≡ []
fixed_patterns rank.Rewrite d fixed = absurd fixed
fixed_patterns rank.Template d fixed = absurd fixed
fixed_patterns other d fixed = refl

-- and what its reader says
pub as_fixed : (r : Rank) (b : Behind) (d : Directive) (old new : Places) (last : Option (List ℕ)) (result : Result (Unit {0}) CheckFault) → IsFixed r → ReadsAs r b d old new result → ReadsRank r b d last result
as_fixed r b d old new last (Ok done) fixed h = well-plain (reader_task r b d) (fixed_patterns r d fixed) (λ j. fixed_reader r j b d fixed ∙ h.0)
as_fixed r b d old new last (Err (fault.Refused why)) fixed h = fault-plain told (reader_task r b d) last why (λ j. fixed_reader r j b d fixed ∙ h)
as_fixed r b d old new last (Err fault.NoMemory) fixed h = tt

-- and where it puts it
pub placed_fixed : (r : Rank) (b : Behind) (d : Directive) (old new : Places) (result : Result (Unit {0}) CheckFault) → ReadsAs r b d old new result → OnOk result (new ≡ placed_by (Some r) b.context d old)
placed_fixed r b d old new (Ok done) h = h.1
placed_fixed r b d old new (Err e) h = tt

-- it isn't the second of its name
pub not_second : (once stands : Bool) → once ≡ false → (once && stands) ≡ false
not_second once stands e = rw e refl

pub none_before : (once stands : Bool) → stands ≡ false → (once && stands) ≡ false
none_before true stands e = e
none_before false stands e = refl
