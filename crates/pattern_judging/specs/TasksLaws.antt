-- Laws of tasks, for those who read directives one after another.
use Rattle.std.proofs.Common.{◌≡◌, ◌∙◌, ◌<◌, ◌≤◌, ◌⊎◌, ℕ, ◌+◌, Bool, true, false, List, [], ◌∷◌, ◌++◌, length, nat_le, nat_lt, take, Option, Some, None, refl, sym, ap, subst, arith, inl, inr}
use Rattle.std.specs.Prelude.{slice_get, if◌then◌else◌}
use Rattle.std.specs.List.{AllByRecursion}
use Rattle.std.specs.Option.{option_or}
use Rattle.std.proofs.Math.Seq.{take-append-add}
use Rattle.std.proofs.lemmas.Bool.Decides.{nat_tests}
use Rattle.std.proofs.lemmas.List.{get_or-append-add, get_or_append_left, length-append, take-append-le}
use Rattle.std.proofs.lemmas.Option.{get_or_from_slice_get, slice_get-get_or, slice_get_within}
use Rattle.dns_data.specs.declared.limit.Limit.TheVariants as limit
use Rattle.dns_data.specs.declared.limit.TheConstants as limits
use Rattle.outside.specs.{IsPatternOf, IsPatternText}
use Rattle.plugin_api.specs.declared.fault.DirectiveFault.{DirectiveFault}
use Rattle.plugin_api.specs.declared.fault.DirectiveFault.TheVariants as fault
use Rattle.plugin_api.specs.declared.fault.DirectiveWhy.{DirectiveWhy}
use Rattle.regex.specs.Strings.{regex_names, regex_source}
use Rattle.regex.specs.declared.string.regex.Regex.{Regex}
use Rattle.regex_syntax.specs.Verdict.{Reads, default_config}
use Rattle.pattern_judging.specs.Tasks.{Carries, IsFault, IsFree, IsRefused, IsWell, Judgement, Refuses, Task, at_line, judged, pattern_task, retold, sequel}

-- what is made of a text was a pattern
pub pattern_text : (text : List ℕ) (r : Regex) → IsPatternOf text r → IsPatternText text
pattern_text text r of = (
  r.pattern.program.hir,
  regex_names r,
  subst (λ t. Reads default_config t r.pattern.program.hir (regex_names r)) of.source
      (subst (λ c. Reads c (regex_source r) r.pattern.program.hir (regex_names r)) of.config of.read),
)

pub good_append : (ts us : List (List ℕ)) → AllByRecursion IsPatternText ts → AllByRecursion IsPatternText us → AllByRecursion IsPatternText (ts ++ us)
good_append [] us h k = k
good_append (t ∷ ts) us h k = (h.0, good_append ts us h.1 k)

get_front : (ts us : List (List ℕ)) (n : ℕ) (x : List ℕ) → slice_get ts n ≡ Some x → slice_get (ts ++ us) n ≡ Some x
get_front ts us n x e =
    let inside = slice_get_within ts n x e in
    slice_get-get_or (ts ++ us) n x (omega (arith, inside, length-append ts us))
    ∙ ap Some (get_or_append_left ts us x n inside ∙ get_or_from_slice_get ts n x x e)

get_behind : (ts us : List (List ℕ)) (n : ℕ) (x : List ℕ) → slice_get us n ≡ Some x → slice_get (ts ++ us) (length ts + n) ≡ Some x
get_behind ts us n x e =
    let inside = slice_get_within us n x e in
    slice_get-get_or (ts ++ us) (length ts + n) x (omega (arith, inside, length-append ts us))
    ∙ ap Some (get_or-append-add ts us n x ∙ get_or_from_slice_get us n x x e)

or_none : {F : Type 0} (a b : Option F) → a ≡ None → option_or a b ≡ b
or_none a b e = ap (λ o. option_or o b) e

or_some : {F : Type 0} (a b : Option F) (x : F) → a ≡ Some x → option_or a b ≡ Some x
or_some a b x e = ap (λ o. option_or o b) e

-- a fault of the first task is one of both
pub fault_first : {F : Type 0} (told : ℕ → DirectiveWhy → F) (front back : Task F) (last : Option (List ℕ)) (refused : F) → IsFault told front last refused → IsFault told (sequel front back) last refused
fault_first told front back last refused (inl h) = inl (record {
  count = h.count;
  inside = omega (arith, h.inside, length-append front.patterns back.patterns);
  good = rw (take-append-le h.count front.patterns back.patterns h.inside) h.good;
  is = λ judgement enough. or_some (front.fault judgement) (back.fault judgement) refused (h.is judgement enough);
})
fault_first told front back last refused (inr h) =
    let inside = slice_get_within front.patterns h.count h.text h.stands in
    inr (record {
      count = h.count;
      good = rw (take-append-le h.count front.patterns back.patterns (omega (arith, inside))) h.good;
      text = h.text;
      stands = get_front front.patterns back.patterns h.count h.text h.stands;
      own = h.own;
      line = h.line;
      why = h.why;
      so = h.so;
      judgement = h.judgement;
      is = or_some (front.fault (judged front h.count h.why)) (back.fault (judged front h.count h.why)) refused h.is;
    })

abbrev so_many : ℕ → DirectiveWhy → Judgement
so_many n why = record { made = n; why = why }

module _ {F : Type 0} (told : ℕ → DirectiveWhy → F) (front back : Task F) (next : back.number ≡ front.number + length front.patterns) (f : IsWell front) where
  later : (count : ℕ) (why : DirectiveWhy) → judged (sequel front back) (length front.patterns + count) why ≡ judged back count why
  later count why = ap (λ (n : ℕ). so_many n why) (omega (arith, next))

  first_free : (judgement : Judgement) → front.number + length front.patterns ≤ judgement.made → (sequel front back).fault judgement ≡ back.fault judgement
  first_free judgement enough = or_none (front.fault judgement) (back.fault judgement) (f.free judgement enough)

  fault_later : (count : ℕ) (why : DirectiveWhy) (refused : F) → back.fault (judged back count why) ≡ Some refused
      → (sequel front back).fault (judged (sequel front back) (length front.patterns + count) why) ≡ Some refused
  fault_later count why refused e =
      first_free (judged (sequel front back) (length front.patterns + count) why) (omega arith) ∙ ap back.fault (later count why) ∙ e

  good_later : (count : ℕ) → AllByRecursion IsPatternText (take count back.patterns) → AllByRecursion IsPatternText (take (length front.patterns + count) (front.patterns ++ back.patterns))
  good_later count g = rw (take-append-add front.patterns back.patterns count) (good_append front.patterns (take count back.patterns) f.good g)

  -- behind a first task without a fault, a fault of the second one is one of both
  pub fault_behind : (last : Option (List ℕ)) (refused : F) → IsFault told back last refused → IsFault told (sequel front back) last refused
  fault_behind last refused (inl h) = inl (record {
    count = length front.patterns + h.count;
    inside = omega (arith, h.inside, length-append front.patterns back.patterns);
    good = good_later h.count h.good;
    is = λ judgement enough. first_free judgement (omega (arith, enough)) ∙ h.is judgement (omega (arith, enough, next));
  })
  fault_behind last refused (inr h) = inr (record {
    count = length front.patterns + h.count;
    good = good_later h.count h.good;
    text = h.text;
    stands = get_behind front.patterns back.patterns h.count h.text h.stands;
    own = h.own;
    line = h.line;
    why = h.why;
    so = h.so;
    judgement = h.judgement;
    is = fault_later h.count h.why refused h.is;
  })

  -- and without one in the second there is none in both
  pub free_behind : IsFree back → IsFree (sequel front back)
  free_behind free judgement h =
      let size = length-append front.patterns back.patterns in
      first_free judgement (omega (arith, h, size)) ∙ free judgement (omega (arith, h, size, next))

  pub well_behind : IsWell back → IsWell (sequel front back)
  well_behind w = record { good = good_append front.patterns back.patterns f.good w.good; free = free_behind w.free }

  -- so the second one carries both
  pub carries-behind : Carries told back (sequel front back)
  carries-behind = record { well = well_behind; refused = fault_behind }

-- the same where memory may be wanting
pub refuses_first : (front back : Task DirectiveFault) (last : Option (List ℕ)) (refused : DirectiveFault) → Refuses front last refused → Refuses (sequel front back) last refused
refuses_first front back last refused (inl e) = inl e
refuses_first front back last refused (inr h) = inr (fault_first at_line front back last refused h)

pub refuses_by : (rest whole : Task DirectiveFault) (last : Option (List ℕ)) (refused : DirectiveFault) → Carries at_line rest whole → Refuses rest last refused → Refuses whole last refused
refuses_by rest whole last refused c (inl e) = inl e
refuses_by rest whole last refused c (inr h) = inr (c.refused last refused h)

pub carries-same : {F : Type 0} (told : ℕ → DirectiveWhy → F) (task : Task F) → Carries told task task
carries-same told task = record { well = λ w. w; refused = λ last refused h. h }

pub carries-on : {F : Type 0} (told : ℕ → DirectiveWhy → F) (rest middle whole : Task F) → Carries told rest middle → Carries told middle whole → Carries told rest whole
carries-on told rest middle whole a b = record { well = λ w. b.well (a.well w); refused = λ last refused h. b.refused last refused (a.refused last refused h) }

-- a task without patterns and without a fault is well
pub well-plain : {F : Type 0} (task : Task F) → task.patterns ≡ [] → ((judgement : Judgement) → task.fault judgement ≡ None) → IsWell task
well-plain task none free = record { good = rw none tt; free = λ judgement h. free judgement }

-- and one without patterns has this fault, if it has it by every judgement
pub fault-plain : {F : Type 0} (told : ℕ → DirectiveWhy → F) (task : Task F) (last : Option (List ℕ)) (refused : F) → ((judgement : Judgement) → task.fault judgement ≡ Some refused)
    → IsFault told task last refused
fault-plain told task last refused is = inl (record { count = 0; inside = omega arith; good = tt; is = λ judgement enough. is judgement })

-- faults that are told by others
pub well-retold : {F G : Type 0} (tells : Option F → Option G) (task : Task F) → tells None ≡ None → IsWell task → IsWell (retold tells task)
well-retold tells task none w = record { good = w.good; free = λ judgement h. ap tells (w.free judgement h) ∙ none }

-- a fault is told by another, and that of a pattern at the same line
pub fault-retold : {F G : Type 0} (told : ℕ → DirectiveWhy → F) (other : ℕ → DirectiveWhy → G) (tells : Option F → Option G) (task : Task F) (last : Option (List ℕ)) (refused : F) (by : G)
    → ((line : ℕ) (why : DirectiveWhy) → tells (Some (told line why)) ≡ Some (other line why)) → tells (Some refused) ≡ Some by → IsFault told task last refused → IsFault other (retold tells task) last by
fault-retold told other tells task last refused by same e (inl h) = inl (record {
  count = h.count;
  inside = h.inside;
  good = h.good;
  is = λ judgement enough. ap tells (h.is judgement enough) ∙ e;
})
fault-retold told other tells task last refused by same e (inr h) =
    let so : Some by ≡ Some (other h.line h.why) = sym e ∙ ap (λ x. tells (Some x)) h.so ∙ same h.line h.why in
    inr (record {
      count = h.count;
      good = h.good;
      text = h.text;
      stands = h.stands;
      own = h.own;
      line = h.line;
      why = h.why;
      so = cc;
      judgement = h.judgement;
      is = ap tells h.is ∙ e;
    })

-- one pattern behind so many of the configuration: there are too many, or it is refused, or made
abbrev past : Option DirectiveFault
past = Some (fault.TooMany limit.Patterns (limits.PATTERNS + 1))

by_number : (b : Bool) (x y : Option DirectiveFault) → b ≡ true → (if b then x else y) ≡ x
by_number b x y e = rw e refl

by_maker : (b c : Bool) (x y : Option DirectiveFault) → b ≡ false → (if b then x else if c then None else y) ≡ (if c then None else y)
by_maker b c x y e = rw e refl

pub pattern_past : (line number : ℕ) (text : List ℕ) (last : Option (List ℕ)) → limits.PATTERNS ≤ number
    → IsFault at_line (pattern_task line number text) last (fault.TooMany limit.Patterns (limits.PATTERNS + 1))
pattern_past line number text last h = inl (record {
  count = 0;
  inside = omega arith;
  good = tt;
  is = λ judgement enough. by_number (nat_le limits.PATTERNS number) past (if nat_lt number judgement.made then None else Some (fault.Why line judgement.why)) (grind (arith, nat_tests));
})

few : (number : ℕ) → number < limits.PATTERNS → nat_le limits.PATTERNS number ≡ false
few number h = grind (arith, nat_tests)

not_made : (number : ℕ) → nat_lt number (number + 0) ≡ false
not_made number = grind (arith, nat_tests)

is_made : (number made : ℕ) → number + 1 ≤ made → nat_lt number made ≡ true
is_made number made h = grind (arith, nat_tests)

pub pattern_refused : (line number : ℕ) (text : List ℕ) (last : Option (List ℕ)) (refused : DirectiveFault) → number < limits.PATTERNS → IsRefused line text last refused
    → IsFault at_line (pattern_task line number text) last refused
pattern_refused line number text last refused h r = inr (record {
  count = 0;
  good = tt;
  text = text;
  stands = refl;
  own = r.own;
  line = line;
  why = r.why;
  so = r.so;
  judgement = r.judgement;
  is = by_maker (nat_le limits.PATTERNS number) (nat_lt number (number + 0)) past (Some (fault.Why line r.why)) (few number h)
      ∙ ap (λ (c : Bool). if c then None else Some (fault.Why line r.why)) (not_made number) ∙ ap Some (sym r.so);
})

pub pattern_judged : (line number : ℕ) (text : List ℕ) (last : Option (List ℕ)) (refused : DirectiveFault) → number < limits.PATTERNS → (refused ≡ fault.NoMemory) ⊎ IsRefused line text last refused
    → Refuses (pattern_task line number text) last refused
pattern_judged line number text last refused h (inl e) = inl e
pattern_judged line number text last refused h (inr r) = inr (pattern_refused line number text last refused h r)

pub pattern_free : (line number : ℕ) (text : List ℕ) → number < limits.PATTERNS → IsFree (pattern_task line number text)
pattern_free line number text h judgement enough =
    by_maker (nat_le limits.PATTERNS number) (nat_lt number judgement.made) past (Some (fault.Why line judgement.why)) (few number h)
    ∙ ap (λ (c : Bool). if c then None else Some (fault.Why line judgement.why)) (is_made number judgement.made enough)

pub pattern_well : (line number : ℕ) (text : List ℕ) → number < limits.PATTERNS → IsPatternText text → IsWell (pattern_task line number text)
pattern_well line number text h good = record { good = (good, tt); free = pattern_free line number text h }
