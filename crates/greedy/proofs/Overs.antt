-- A function written over the first n places of a list.
use Rattle.std.proofs.Common.{◌≡◌, ℕ, ◌+◌, ◌<◌, List, [], ◌∷◌, ◌++◌, length, get_or, drop, set, sym, ap, ◌∙◌, ap₂, append_assoc, arith}
use Rattle.std.proofs.lemmas.List.{append-nil, drop_all, set_at, drop_more, get_or_at, ext_get_or}
use Rattle.std.proofs.lemmas.List.FromFn.{length-map-range_with_len, get_or-map-range_with_len, map-range_with_len_more}
use Rattle.ranges.specs.Weights.{tabulated}
use Rattle.greedy.specs.Flags.{over}

pub tab_same : (f g : ℕ → ℕ) (n : ℕ) → ((i : ℕ) → i < n → f i ≡ g i) → tabulated f n ≡ tabulated g n
tab_same f g n h = ext_get_or 0 (tabulated f n) (tabulated g n) (length-map-range_with_len f 0 n ∙ sym (length-map-range_with_len g 0 n)) (λ i l.
    (let m : i < n = omega (arith, length-map-range_with_len f 0 n) in
    get_or-map-range_with_len f 0 n i i 0 m (omega arith) ∙ h i m ∙ sym (get_or-map-range_with_len g 0 n i i 0 m (omega arith))))

-- the next place stands as it was
split : (f : ℕ → ℕ) (d : List ℕ) (i : ℕ) → i < length d → over f i d ≡ tabulated f i ++ (get_or d i 0 ∷ drop (i + 1) d)
split f d i l = ap (λ xs. tabulated f i ++ xs) (drop_more d i 0 l)

join : (f : ℕ → ℕ) (d : List ℕ) (i : ℕ) → tabulated f i ++ (f i ∷ drop (i + 1) d) ≡ over f (i + 1) d
join f d i =
    sym (append_assoc (tabulated f i) (f i ∷ []) (drop (i + 1) d))
    ∙ ap (λ xs. xs ++ drop (i + 1) d) (sym (map-range_with_len_more f 0 i i (omega arith)))

-- a loop that writes f at each place of d: what it reads there, its step and its end
module _ (f : ℕ → ℕ) (d xs : List ℕ) (i : ℕ) where
  pub over_next : xs ≡ over f i d → i < length d → get_or xs i 0 ≡ get_or d i 0
  over_next e l =
      ap (λ ys. get_or ys i 0) (e ∙ split f d i l)
      ∙ get_or_at (tabulated f i) (get_or d i 0) (drop (i + 1) d) 0 i (length-map-range_with_len f 0 i)

  pub over_step : (v : ℕ) → xs ≡ over f i d → i < length d → v ≡ f i → set xs i v ≡ over f (i + 1) d
  over_step v e l here =
      ap₂ (λ ys x. set ys i x) (e ∙ split f d i l) here
      ∙ set_at (tabulated f i) (get_or d i 0) (drop (i + 1) d) (f i) i (length-map-range_with_len f 0 i)
      ∙ join f d i

  pub over_done : (n : ℕ) → xs ≡ over f i d → i ≡ n → n ≡ length d → xs ≡ tabulated f n
  over_done n e here all =
      e ∙ ap (λ m. over f m d) here ∙ ap (λ ys. tabulated f n ++ ys) (drop_all n d (omega arith)) ∙ append-nil (tabulated f n)
