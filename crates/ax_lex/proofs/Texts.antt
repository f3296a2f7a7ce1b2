-- What stands inside a text: what is read is what the grammar has, however many pieces may be read.
use Rattle.std.proofs.Common.{◌≡◌, ℕ, ◌+◌, ◌-◌, ◌<◌, ◌≤◌, ◌==◌, Bool, true, false, cond, zero, suc, List, [], ◌∷◌, ◌++◌, length, Option, Some, None, refl, ap, subst, sym, ◌∙◌, arith, append_assoc, append-nil}
use Rattle.std.specs.Prelude.{option_and_then}
use Rattle.std.specs.Option.{option_map}
use Rattle.std.proofs.lemmas.Bool.{eqb-true, eq-eqb, ne_eqb}
use Rattle.ax_lex.specs.Inside.{begins_with, IsInside}
use Rattle.ax_lex.specs.Inside.IsInside.{closed, piece}
use Rattle.ax_lex.specs.Reading.{behind, read_piece, read_inside}
use Rattle.ax_lex.proofs.Options.{ThenFound, then_found}
use Rattle.ax_lex.proofs.Pieces.{piece_sound, piece_complete, PieceTakes, piece_takes, PieceFront, piece_front}

pub inside_closed : (quote byte more : ℕ) (rest : List ℕ) → 0 < more → (byte == quote) ≡ true
    → read_inside quote more (byte ∷ rest) ≡ Some ([], rest)
unfolding read_inside
inside_closed quote byte zero rest h e = absurd (omega arith)
inside_closed quote byte (suc more) rest h e = rw e refl

pub inside_more : (quote byte more : ℕ) (rest value after : List ℕ) → 0 < more
    → (byte == quote) ≡ false → read_piece (byte ∷ rest) ≡ Some (value, after)
    → read_inside quote more (byte ∷ rest) ≡ behind value (read_inside quote (more - 1) after)
unfolding read_inside
inside_more quote byte zero rest value after h e p = absurd (omega arith)
inside_more quote byte (suc more) rest value after h e p =
    let one : suc more - 1 ≡ more = omega arith in
    rw (e, p, one) refl

pub inside_broken : (quote byte more : ℕ) (rest : List ℕ) → (byte == quote) ≡ false
    → read_piece (byte ∷ rest) ≡ None → read_inside quote more (byte ∷ rest) ≡ None
unfolding read_inside
inside_broken quote byte zero rest e p = refl
inside_broken quote byte (suc more) rest e p = rw (e, p) refl

pub inside_empty : (quote more : ℕ) → read_inside quote more [] ≡ None
unfolding read_inside
inside_empty quote zero = refl
inside_empty quote (suc more) = refl

pub inside_over : (quote : ℕ) (bytes : List ℕ) → read_inside quote 0 bytes ≡ None
unfolding read_inside
inside_over quote bytes = refl

-- what was read before, and a piece more
pub behind_behind : (a b : List ℕ) (o : Option (List ℕ × List ℕ))
    → behind a (behind b o) ≡ behind (a ++ b) o
behind_behind a b None = refl
behind_behind a b (Some found) = ap (λ (bs : List ℕ). Some (bs, found.1)) (sym
    (append_assoc a b found.0))

behind_sound : (first : List ℕ) (o : Option (List ℕ × List ℕ)) (found : List ℕ × List ℕ)
    → behind first o ≡ Some found → (then : List ℕ × List ℕ) × (o ≡ Some then) ×
    ((first ++ then.0, then.1) ≡ found)
behind_sound first None found e = absurd (cc)
behind_sound first (Some then) found e = (then, refl, cc)

-- from what is so of fewer pieces
inside_step : (quote more byte : ℕ) (rest : List ℕ) (found : List ℕ × List ℕ)
    → ((bytes : List ℕ) (found : List ℕ × List ℕ) → read_inside quote more bytes ≡ Some found
    → IsInside quote found.0 bytes found.1)
    → (b : Bool) → (byte == quote) ≡ b → cond b (Some ([], rest)) (option_and_then
    (λ first. behind first.0 (read_inside quote more first.1)) (read_piece
    (byte ∷ rest))) ≡ Some found → IsInside quote found.0 (byte ∷ rest) found.1
inside_step quote more byte rest found was true l e =
    let same : ([], rest) ≡ found = cc in
    subst (λ (f : List ℕ × List ℕ). IsInside quote f.0 (byte ∷ rest) f.1) same (closed
    (eqb-true byte quote l))
inside_step quote more byte rest found was false l e =
    let s : ThenFound (λ first. behind first.0 (read_inside quote more first.1)) (read_piece
    (byte ∷ rest)) found = then_found _ (read_piece (byte ∷ rest)) found e in
    let t : (then : List ℕ × List ℕ) × (read_inside quote more s.x.1 ≡ Some then) ×
    ((s.x.0 ++ then.0, then.1) ≡ found) = behind_sound s.x.0
    (read_inside quote more s.x.1) found s.then in
    subst (λ (f : List ℕ × List ℕ). IsInside quote f.0 (byte ∷ rest) f.1) t.2
    (piece l (piece_sound (byte ∷ rest) s.x s.first) (was s.x.1 t.0 t.1) refl)

-- what is read stands inside a text
pub inside_sound : (quote more : ℕ) (bytes : List ℕ) (found : List ℕ × List ℕ)
    → read_inside quote more bytes ≡ Some found → IsInside quote found.0 bytes found.1
unfolding read_inside
inside_sound quote zero bytes found e = absurd (cc)
inside_sound quote (suc more) [] found e = absurd (cc)
inside_sound quote (suc more) (byte ∷ rest) found e =
    inside_step quote more byte rest found (inside_sound quote more) (byte == quote) refl e

abbrev pub inside_found : List ℕ → List ℕ → Option (List ℕ × List ℕ)
inside_found value after = Some (value, after)

-- what stands inside a text is read
pub inside_complete : (quote : ℕ) {value before after : List ℕ}
    → IsInside quote value before after → (more : ℕ) → length before ≤ more
    → read_inside quote more before ≡ inside_found value after
inside_complete quote (closed {byte} {after} e) more h = inside_closed quote byte more after
    (omega arith) (eq-eqb byte quote e)
inside_complete quote (piece {first} {value} {whole} {before} {between} {after} n p r w) more h =
    let t : PieceTakes before between = piece_takes p in
    let no : (t.byte == quote) ≡ false = rw t.begins at n in
    let long : 0 < more = omega (arith, t.shorter) in
    let reads : read_piece (t.byte ∷ t.rest) ≡ Some (first, between) = ap read_piece
    (sym t.begins) ∙ piece_complete p in
    ap (read_inside quote more) t.begins
    ∙ inside_more quote t.byte more t.rest first between long no reads
    ∙ ap (behind first) (inside_complete quote r (more - 1) (omega (arith, t.shorter)))
    ∙ ap (λ bs. inside_found bs after) (sym w)

pub inside_shorter : {quote : ℕ} {value before after : List ℕ}
    → IsInside quote value before after → length after < length before
inside_shorter (closed e) = omega arith
inside_shorter (piece {before = before} {between = between} n p r w) =
    let t : PieceTakes before between = piece_takes p in
    omega (arith, t.shorter, inside_shorter r)

-- ---- what the code does with what is left

pub step_empty : (quote more : ℕ) (rest : List ℕ) → length rest ≡ 0
    → read_inside quote more rest ≡ None
step_empty quote more [] e = inside_empty quote more
step_empty quote more (byte ∷ rest) e = absurd (omega arith)

pub step_closed : (quote more byte : ℕ) (rest after : List ℕ) → rest ≡ byte ∷ after → 0 < more
    → byte ≡ quote → read_inside quote more rest ≡ inside_found [] after
step_closed quote more byte rest after r h e = rw r (inside_closed quote byte more after h
    (eq-eqb byte quote e))

pub step_broken : (quote more byte : ℕ) (rest after : List ℕ) → rest ≡ byte ∷ after
    → (byte ≡ quote → ⊥) → None ≡ read_piece rest → read_inside quote more rest ≡ None
step_broken quote more byte rest after r n p =
    let none : read_piece (byte ∷ after) ≡ None = rw r at (sym p) in
    rw r (inside_broken quote byte more after (ne_eqb byte quote n) none)

pub step_more : (quote more less byte : ℕ) (rest after value next : List ℕ)
    → rest ≡ byte ∷ after → more ≡ less + 1 → (byte ≡ quote → ⊥)
    → inside_found value next ≡ read_piece rest
    → read_inside quote more rest ≡ behind value (read_inside quote less next)
step_more quote more less byte rest after value next r h n p =
    let some : read_piece (byte ∷ after) ≡ inside_found value next = rw r at (sym p) in
    let one : more - 1 ≡ less = omega arith in
    rw r (inside_more quote byte more after value next (omega arith) (ne_eqb byte quote n) some
    ∙ ap (λ k. behind value (read_inside quote k next)) one)

-- the bytes after what was read
abbrev pub rest_of : Option (List ℕ × List ℕ) → Option (List ℕ)
rest_of o = option_map (λ found. found.1) o

pub rest_behind : (value : List ℕ) (o : Option (List ℕ × List ℕ))
    → rest_of (behind value o) ≡ rest_of o
rest_behind value None = refl
rest_behind value (Some found) = refl

pub behind_none : (value : List ℕ) (o : Option (List ℕ × List ℕ)) → o ≡ None → behind value o ≡ None
behind_none value o e = ap (behind value) e

pub behind_end : (value after : List ℕ) (o : Option (List ℕ × List ℕ))
    → o ≡ inside_found [] after → behind value o ≡ inside_found value after
behind_end value after o e = ap (behind value) e
    ∙ ap (λ bs. inside_found bs after) (append-nil value)

-- ---- the bytes of a text alone

pub record InsideFront (quote : ℕ) (value before after : List ℕ) : Type 0 where
  pub front : List ℕ
  pub whole : before ≡ front ++ after
  pub alone : IsInside quote value front []

-- the first byte of a piece, whatever is behind it
begins_same : (quote : ℕ) (front one other : List ℕ) → 0 < length front → (after rest : List ℕ)
    → one ≡ front ++ after → other ≡ front ++ rest → begins_with quote other ≡ false
    → begins_with quote one ≡ false
begins_same quote [] one other h after rest e f n = absurd (omega arith)
begins_same quote (byte ∷ front) one other h after rest e f n = rw e (rw f at n)

pub inside_front : {quote : ℕ} {value before after : List ℕ} → IsInside quote value before after
    → InsideFront quote value before after
inside_front (closed {byte} e) = record { front = byte ∷ []; whole = refl; alone = closed e }
inside_front {quote} (piece {first} {value} {whole} {before} {between} {after} n p r w) =
    let f : InsideFront quote value between after = inside_front r in
    let g : PieceFront first before between = piece_front p in
    let e : before ≡ (g.front ++ f.front) ++ after = g.whole ∙ ap (λ bs. g.front ++ bs) f.whole
    ∙ sym (append_assoc g.front f.front after) in
    record {
      front = g.front ++ f.front;
      whole = e;
      alone = piece (begins_same quote g.front
          (g.front ++ f.front) before g.takes f.front between refl g.whole n)
          (g.piece_before f.front) f.alone w;
    }
