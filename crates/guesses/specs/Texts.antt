-- What a line of the book prints.
use Rattle.std.specs.Prelude.{ℕ, List, ◌++◌, codes, decimal}
use Rattle.guesses.specs.declared.book.GuessLine.{GuessLine}
use Rattle.guesses.specs.declared.book.Verdict.{Verdict}
use Rattle.guesses.specs.declared.book.Verdict.TheVariants.{Open, Hit, RuledOut, GivenUp}

-- only a hit has points
abbrev pub verdict_text : Verdict → List ℕ
verdict_text Open = codes "open"
verdict_text (Hit p) = codes "hit " ++ decimal p
verdict_text RuledOut = codes "ruled out"
verdict_text GivenUp = codes "given up"

abbrev pub line_text : GuessLine → List ℕ
line_text l =
    codes "guess " ++ (decimal l.k ++ (codes " doublings " ++ (decimal l.doublings ++ (codes " " ++ verdict_text l.verdict))))
