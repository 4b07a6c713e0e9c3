-- Records in the room of others.
use Rattle.std.proofs.Common.{◌≡◌, OnOk, OnErr, Result, sym, subst}
use Rattle.std.proofs.Common.Result.{Ok, Err}

-- what holds of both holds of what is one of them
pub either_holds : {V A E : Type 0} (P : V → Type 0) (new other old : V) (r : Result A E) → OnOk r (new ≡ other) → OnErr r (new ≡ old) → P other → P old → P new
either_holds P new other old (Ok v) ok err of-other of-old = subst P (sym ok) of-other
either_holds P new other old (Err e) ok err of-other of-old = subst P (sym err) of-old
