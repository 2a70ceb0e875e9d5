-- Texts laid one behind the other.
use Rattle.std.proofs.Common.{◌≡◌, ℕ, Bool, true, false, cond, ◌+◌, ◌<◌, ◌≤◌, List, [], ◌∷◌, ◌++◌, length, get_or, take, drop, sym, refl, ap, subst, ◌∙◌, zero-add, add-zero, arith, length-append}
use Rattle.std.proofs.lemmas.Fmt.{decimal_is_IsNumeral, first_decimal}
use Rattle.std.proofs.lemmas.Grind.{flat_map-append}
use Rattle.std.proofs.lemmas.List.{append-nil, take_more, flat_map_more}
use Rattle.ranges.specs.Weights.{marked}
use Rattle.guesses.specs.declared.book.GuessLine.{GuessLine}
use Rattle.guesses.specs.Books.{no_line}
use Rattle.sheets.specs.Bytes.{stored}
use Rattle.sheets.specs.Sheets.{chosen_below, chosen_at}
use Rattle.sheets.proofs.Points.{chosen_more}
use Rattle.sheets.proofs.Stores.{stored_append, stored_put}
use Rattle.listings.specs.declared.text.Lay.{Lay}
use Rattle.listings.specs.Text.{Laid, Lays, DecimalLaw}
use Rattle.listings.specs.Listings.{guess_text, guesses_text, at_text, points_text}

pub laid_then : {s s₁ s₂ : List ℕ} {at at₁ at₂ : ℕ} (t u : List ℕ) → Laid s at t s₁ at₁ → Laid s₁ at₁ u s₂ at₂ → Laid s at (t ++ u) s₂ at₂
laid_then {s} {s₁} {s₂} {at} {at₁} {at₂} t u a b =
    record {
      bytes =
          b.bytes ∙ ap (λ z. stored z at₁ u) a.bytes ∙ ap (λ i. stored (stored s at t) i u) a.place
          ∙ sym (stored_append t u s at);
      place = omega (arith, a.place, b.place, length-append t u);
    }

pub lays_then : {a b c : Lay} {t u : List ℕ} → Lays a t b → Lays b u c → Lays a (t ++ u) c
lays_then {a} {b} {c} {t} {u} x y =
    record { buffer = y.buffer ∙ x.buffer; laid = laid_then t u x.laid y.laid }

pub lays_as : {a b : Lay} {t u : List ℕ} → t ≡ u → Lays a t b → Lays a u b
lays_as {a} {b} e x = let P : List ℕ → Type 0 = λ w. Lays a w b in subst P e x

pub lays_none : (a : Lay) → Lays a [] a
lays_none a = record { buffer = refl; laid = record { bytes = refl; place = sym (add-zero a.at) } }

-- from the first byte on, with room for all
pub laid_whole : (text s s' : List ℕ) (end : ℕ) → Laid s 0 text s' end → length text ≤ length s → s' ≡ text ++ drop (length text) s
laid_whole text s s' end laid room =
    laid.bytes ∙ stored_put text s 0 (omega arith) ∙ ap (λ i. text ++ drop i s) (zero-add (length text))

-- one guess more, and one point more where it is marked
pub guesses_more : (ls : List GuessLine) (i : ℕ) → i < length ls → guesses_text (take (i + 1) ls) ≡ guesses_text (take i ls) ++ guess_text (get_or ls i no_line)
guesses_more ls i h =
    ap guesses_text (take_more ls i no_line h) ∙ sym (flat_map_more guess_text [] (take i ls) (get_or ls i no_line))

points_more : (ms : List ℕ) (p : ℕ) → points_text (chosen_below ms (p + 1)) ≡ points_text (chosen_below ms p) ++ points_text (chosen_at ms p)
points_more ms p = ap points_text (chosen_more ms p) ∙ flat_map-append at_text (chosen_below ms p) (chosen_at ms p)

point_text : (b : Bool) (p : ℕ) → points_text (cond b (p ∷ []) []) ≡ cond b (at_text p) []
point_text true p = append-nil (at_text p)
point_text false p = refl

pub point_more : (ms : List ℕ) (p : ℕ) (b : Bool) → marked ms p ≡ b → points_text (chosen_below ms (p + 1)) ≡ points_text (chosen_below ms p) ++ cond b (at_text p) []
point_more ms p b e =
    points_more ms p ∙ ap (λ t. points_text (chosen_below ms p) ++ t) (ap (λ c. points_text (cond c (p ∷ []) [])) e ∙ point_text b p)

pub decimal_law : DecimalLaw
decimal_law x small = ((decimal_is_IsNumeral x (omega arith)).1, λ some. first_decimal x some (omega arith))
