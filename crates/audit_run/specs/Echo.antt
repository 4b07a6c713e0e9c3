-- A meaning for tests: two configurations reply to each datagram with its own bytes, and take no
-- mark.
use Rattle.std.specs.Prelude.{◌≡◌, ◌<◌, ℕ, ◌==◌, false, List, [], ◌∷◌, length}
use Rattle.std.proofs.Common.{refl, sym, subst}
use Rattle.outside.specs.declared.datagram.Datagram.{Datagram}
use Rattle.outside.specs.declared.mark.Mark.{Mark}
use Rattle.chain_meaning.specs.declared.served.Served.{Served}
use Rattle.chain_meaning.specs.declared.served.Served.TheVariants.{Reply, Silent, NoMemory}
use Rattle.audit_run.specs.Own.{AllOwn}
use Rattle.audit_run.specs.Walks.{IsOffAt, Meanings}

abbrev pub EchoesSo : Datagram → Served → Type 0
EchoesSo d (Reply reply) = reply ≡ d.bytes
EchoesSo d (Silent why) = ⊥
EchoesSo d NoMemory = Unit {0}

abbrev pub echoes : Meanings
echoes serial d marks served = (serial < 2) × (marks ≡ []) × EchoesSo d served

pub echoes_within : (serial : ℕ) (d : Datagram) (marks : List Mark) (served : Served)
    → echoes serial d marks served → serial < 2
echoes_within serial d marks served h = h.0

pub echoes_own : (serial : ℕ) (d : Datagram) (marks : List Mark) (served : Served)
    → echoes serial d marks served → AllOwn marks
echoes_own serial d marks served h = subst AllOwn (sym h.1) tt

pub echoes_starve : (serial : ℕ) (d : Datagram) → serial < 2 → echoes serial d [] NoMemory
echoes_starve serial d low = (low, refl, tt)

pub echo_off : (serial : ℕ) (d : Datagram) (marks : List Mark) → serial < 2
    → (length marks == 0) ≡ false → IsOffAt (echoes serial d) marks 0
echo_off serial d [] low some = cc
echo_off serial d (m ∷ marks) low some = record {
  front = [];
  bad = m;
  rest = marks;
  is = refl;
  number = refl;
  never = λ other served h. none m other h.1;
  other = [];
  served = NoMemory;
  may = (low, refl, tt);
}
  where
    none : (m : Mark) (other : List Mark) → m ∷ other ≡ [] → ⊥
    none m other e = cc
