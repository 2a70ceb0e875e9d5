-- What is written stays so under add.
use Rattle.std.proofs.Common.{◌≡◌, ℕ, ◌+◌, List, ◌++◌, length, take, drop, Ok, sym, refl, ap, ◌∙◌, arith, length-append}
use Rattle.std.proofs.lemmas.List.{append_assoc, take_at}
use Rattle.ranges.specs.declared.number.RangeNumber.{RangeNumber}
use Rattle.sheets.specs.declared.writer.SheetWriter.{SheetWriter}
use Rattle.sheets.specs.Bytes.{bytes16, put}
use Rattle.sheets.specs.Sheets.{section_bytes, section_length, ledger_bytes}
use Rattle.sheets.specs.Writing.{Sound, AddKeeps, next_writer}
use Rattle.sheets.proofs.Stores.{length_joined}

pub length_section : (k : ℕ) (ls : List RangeNumber) → length (section_bytes k ls) ≡ section_length ls
length_section k ls = omega (arith, length_joined (λ (r : RangeNumber). bytes16 r.0) 2 (λ r. refl) ls)

-- bytes put behind what a buffer begins with
pub put_behind : (s L S : List ℕ) (at : ℕ) → at ≡ length L → take (length L) s ≡ L → put s at S ≡ (L ++ S) ++ drop (at + length S) s
put_behind s L S at e front =
    ap (λ l. l ++ (S ++ drop (at + length S) s)) (ap (λ i. take i s) e ∙ front)
    ∙ sym (append_assoc L S (drop (at + length S) s))

pub add_keeps : (w : SheetWriter) (s : List ℕ) (k : ℕ) (ls : List RangeNumber) → Sound (record { guess = k; lines = ls }) → AddKeeps (Ok tt) w s k ls (next_writer w k ls) (put s w.len (section_bytes k ls))
add_keeps w s k ls sound ss h =
    let at : w.len ≡ length (ledger_bytes ss) = ap (λ v. v.len) h.writer in
    let long = length-append (ledger_bytes ss) (section_bytes k ls) in
    let end : w.len + section_length ls ≡ length (ledger_bytes ss ++ section_bytes k ls) = omega (arith, at, long, length_section k ls) in
    let bytes = ap (take (length (ledger_bytes ss ++ section_bytes k ls))) (put_behind s (ledger_bytes ss) (section_bytes k ls) w.len at h.bytes) in
    record {
      writer = cc;
      bytes = bytes ∙ take_at (ledger_bytes ss ++ section_bytes k ls) _ _ refl;
      sound = (sound, h.sound);
    }
