use Rattle.std.proofs.Common.{◌+◌, ◌<◌, ℕ, List, length, take, get_or, sym, subst, arith}
use Rattle.std.proofs.lemmas.List.{take_all, take_more}
use Rattle.std.proofs.lemmas.List.Elements.{All-push}
use Rattle.std.specs.List.{All}
use Rattle.corefile_blocks.specs.Readable.{HasShortBytes}
use Rattle.corefile_blocks.proofs.bundle.are_short.Goals as goal

one_more : {X : Type 0} (P : X → Type 0) → (xs : List X) (i : ℕ) (d : X) → i < length xs → All P (take i xs) → P (get_or xs i d) → All P (take (i + 1) xs)
one_more P xs i d h all p = subst (All P) (sym (take_more xs i d h)) (All-push P (take i xs) (get_or xs i d) all p)

pub loop-file-preserved : goal.loop-file-preserved
loop-file-preserved c =
    one_more HasShortBytes c.args.files.now c.loop-file.file-index c.file-item.result (omega arith) c.loop-file.invariant
    (subst HasShortBytes c.file-item.is (c.has_short_bytes.ensures.0 c.if-not-has_short_bytes.false))

pub returns-clause-yes : goal.returns-clause-yes
returns-clause-yes c = λ _. subst (All HasShortBytes) (take_all c.loop-file.file-index c.args.files.now (omega arith)) c.loop-file.invariant
