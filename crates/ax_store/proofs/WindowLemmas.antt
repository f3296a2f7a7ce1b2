-- What a window over the frames of a log shows.
use Rattle.std.proofs.Common.{◌≡◌, ℕ, ◌+◌, ◌-◌, ◌≤◌, List, ◌++◌, length, take, drop, ap, ◌∙◌, arith}
use Rattle.std.proofs.lemmas.List.{take_at, drop-take, take-take, drop-drop}

-- what was read into the window is what it shows
pub shown : (n m : ℕ) (items buf all : List ℕ) (start : ℕ) → length buf ≡ n → m ≡ n → buf ≡ take m (drop start all)
    → take n (buf ++ drop (length buf) items) ≡ take (length (take n (buf ++ drop (length buf) items))) (drop start all)
shown n m items buf all start long wide read =
    let same : take n (buf ++ drop (length buf) items) ≡ buf = take_at buf (drop (length buf) items) n long in
    let size : m ≡ length (take n (buf ++ drop (length buf) items)) = omega (arith, ap length same, long, wide) in
    same ∙ read ∙ ap (λ (k : ℕ). take k (drop start all)) size

-- bytes within the window are those at their place
pub part_shown : (items all : List ℕ) (start at len from n : ℕ) → items ≡ take (length items) (drop start all) → start ≤ at
    → at + len ≤ start + length items → from ≡ at - start → n ≡ len
    → take n (drop from items) ≡ take len (drop at all)
part_shown items all start at len from n shows after within is wide =
    let more : ℕ = length items - from in
    let split : length items ≡ from + more = omega (arith, after, within, is) in
    let place : start + from ≡ at = omega (arith, after, is) in
    ap (λ (k : ℕ). take k (drop from items)) wide
    ∙ ap (λ (l : List ℕ). take len (drop from l)) shows
    ∙ ap (λ (k : ℕ). take len (drop from (take k (drop start all)))) split
    ∙ ap (take len) (drop-take from more (drop start all))
    ∙ take-take len more (drop from (drop start all)) (omega (arith, after, within, is))
    ∙ ap (take len) (drop-drop from start all)
    ∙ ap (λ (k : ℕ). take len (drop k all)) place
