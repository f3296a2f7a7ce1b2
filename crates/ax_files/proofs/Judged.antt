-- What is at a root's place is one thing, so files are not both lost and not; and files of a store of which nothing
-- has been lost are so still beside empty ones in the places where there was none.
use Rattle.std.proofs.Common.{◌≡◌, ◌≢◌, ◌⊎◌, inl, inr, ⊎_elim, ℕ, ◌^◌, ◌<◌, ◌≤◌, Bool, true, false, IsTrue, List, [], length, take, drop, slice_index}
use Rattle.std.proofs.Common.{Option, Some, None, option_map, option_copied, unwrap_or, if◌then◌else◌, Bor, refl, sym, ◌∙◌, ap, subst, arith}
use Rattle.std.specs.Option.{ForSome}
use Rattle.ax_files.specs.Content.{Holds, IsFound}
use Rattle.ax_files.specs.Faults.{IsOfLost, IsOfSomeCall}
use Rattle.ax_files.specs.Judging.{IsAtRoot, IsFull, IsLost, IsRootFile, IsSound, IsUnsound, IsWholeRoot, root_state}
use Rattle.ax_files.specs.declared.file_fault.FileFault.{FileFault}
use Rattle.ax_files.specs.declared.file_fault.FileFault.TheVariants.{
  Call,
  Folder,
  Locked,
  Rootless,
  Foreign,
  Arealess,
  Bound,
  Detached,
  Stopped,
}
use Rattle.ax_files.specs.declared.file_fault.RootState.{RootState}
use Rattle.ax_files.specs.declared.file_fault.RootState.TheVariants.{Absent, Short, NoSlot, HasSlot}
use Rattle.ax_frame.specs.RootSlot.{IsSlot}
use Rattle.ax_frame.specs.declared.root_slot.RootSlot.{RootSlot}
use Rattle.ax_frame.specs.declared.root_slot.RootSlot.TheVariants.{Closed, Live, Bad}

-- whether a slot is open, whatever it names
abbrev is_open : RootSlot → Bool
is_open Closed = false
is_open (Live version area generation) = true
is_open Bad = true

by_gates : (first second : RootSlot)
    → root_state first second ≡ (if is_open first then HasSlot else (if is_open second then HasSlot else NoSlot))
by_gates Closed Closed = refl
by_gates Closed (Live version area generation) = refl
by_gates Closed Bad = refl
by_gates (Live version area generation) second = refl
by_gates Bad second = refl

gate : (bytes : List ℕ) (slot : RootSlot) → is_open slot ≡ true → IsSlot bytes slot → slice_index bytes 0 ≡ 1
gate bytes Closed opened is = cc
gate bytes (Live version area generation) opened is = ap (λ (l : List ℕ). slice_index l 0) is.1
gate bytes Bad opened is = is.0

closed : (bytes : List ℕ) (slot : RootSlot) → is_open slot ≡ false → IsSlot bytes slot → slice_index bytes 0 ≢ 1
closed bytes Closed opened is = is
closed bytes (Live version area generation) opened is = cc
closed bytes Bad opened is = cc

either : (b : Bool) → (b ≡ true) ⊎ (b ≡ false)
either true = inl refl
either false = inr refl

same_gate : (bytes : List ℕ) (one other : RootSlot) → IsSlot bytes one → IsSlot bytes other → is_open one ≡ is_open other
same_gate bytes one other one_is other_is =
    ⊎_elim
    (λ (yes_one : is_open one ≡ true).
    ⊎_elim (λ (yes_other : is_open other ≡ true). yes_one ∙ sym yes_other)
    (λ (no_other : is_open other ≡ false).
    absurd (closed bytes other no_other other_is (gate bytes one yes_one one_is)))
    (either (is_open other)))
    (λ (no_one : is_open one ≡ false).
    ⊎_elim
    (λ (yes_other : is_open other ≡ true).
    absurd (closed bytes one no_one one_is (gate bytes other yes_other other_is)))
    (λ (no_other : is_open other ≡ false). no_one ∙ sym no_other)
    (either (is_open other)))
    (either (is_open one))

one_whole : (bytes : List ℕ) (state other : RootState) → IsWholeRoot bytes state → IsWholeRoot bytes other → state ≡ other
one_whole bytes state other is also =
    let first : is_open is.first ≡ is_open also.first =
    same_gate (take 16 bytes) is.first also.first is.first_is also.first_is in
    let second : is_open is.second ≡ is_open also.second =
    same_gate (take 16 (drop 16 bytes)) is.second also.second is.second_is also.second_is in
    let by : Bool → Bool → RootState = λ f s. if f then HasSlot else (if s then HasSlot else NoSlot) in
    is.state_is ∙ by_gates is.first is.second ∙ ap (λ (f : Bool). by f (is_open is.second)) first
    ∙ ap (λ (s : Bool). by (is_open also.first) s) second
    ∙ sym (by_gates also.first also.second)
    ∙ sym also.state_is

less_or_not : (a b : ℕ) → (a < b) ⊎ (b ≤ a)
less_or_not a b = grind arith

one_root_file : (bytes : List ℕ) (state other : RootState) → IsRootFile bytes state → IsRootFile bytes other → state ≡ other
one_root_file bytes state other is also =
    ⊎_elim (λ (less : length bytes < 33). is.short less ∙ sym (also.short less))
    (λ (all : 33 ≤ length bytes). one_whole bytes state other (is.whole all) (also.whole all))
    (less_or_not (length bytes) 33)

pub one_root : (root : Option (List ℕ)) (state other : RootState) → IsAtRoot root state → IsAtRoot root other → state ≡ other
one_root None state other is also = is ∙ sym also
one_root (Some bytes) state other is also = one_root_file bytes state other is also

pub not_both : (root a b : Option (List ℕ)) (fault : FileFault) → IsSound root a b → IsUnsound root a b fault → ⊥
not_both root a b fault sound unsound =
    sound.sound
    (subst (λ (state : RootState). IsLost state (option_map length a) (option_map length b))
    (one_root root unsound.state sound.state unsound.at_root sound.at_root) unsound.lost)

-- the bytes of a file that is there, or none
abbrev made : Option (List ℕ) → Option (List ℕ)
made bytes = Some (unwrap_or bytes [])

full_before : (bytes : Option (List ℕ)) → IsFull (option_map length (made bytes)) → IsFull (option_map length bytes)
full_before None full = omega arith
full_before (Some bytes) full = full

lost_before : (state : RootState) (a b : Option (List ℕ))
    → IsLost state (option_map length (made a)) (option_map length (made b))
    → IsLost state (option_map length a) (option_map length b)
lost_before Absent a b lost = ⊎_elim (λ full. inl (full_before a full)) (λ full. inr (full_before b full)) lost
lost_before Short a b lost = ⊎_elim (λ full. inl (full_before a full)) (λ full. inr (full_before b full)) lost
lost_before NoSlot a b lost = tt
lost_before HasSlot a b lost = ⊎_elim (λ missing. absurd (cc)) (λ missing. absurd (cc)) lost

pub still_sound : (root a b : Option (List ℕ)) → IsSound root a b
    → IsSound (Some (unwrap_or root [])) (Some (unwrap_or a [])) (Some (unwrap_or b []))
still_sound None a b is = record {
  state = Short;
  at_root = record { short = λ _. refl; whole = λ all. absurd (omega arith) };
  sound = λ lost. is.sound
      (subst (λ (state : RootState). IsLost state (option_map length a) (option_map length b)) (sym is.at_root)
      (lost_before Absent a b lost));
}
still_sound (Some bytes) a b is = record {
  state = is.state;
  at_root = is.at_root;
  sound = λ lost. is.sound (lost_before is.state a b lost);
}

call_or_lost : (fault : FileFault) → IsOfSomeCall fault → IsOfLost fault → ⊥
call_or_lost (Call extent call error) is lost = lost
call_or_lost (Folder error) is lost = is
call_or_lost (Locked extent) is lost = is
call_or_lost (Rootless root area) is lost = is
call_or_lost Foreign is lost = is
call_or_lost (Arealess area) is lost = is
call_or_lost (Bound extent) is lost = is
call_or_lost Detached is lost = is
call_or_lost Stopped is lost = is

-- what a file that is seen by a reference holds is what is held where it was found
held_is : {F : Type 0} (is_honest : F → Bool) (content : F → List ℕ) (seen : Option (Bor F)) (held : Option (List ℕ))
    → IsFound is_honest content (option_copied seen) held → option_map (λ f. content f.now) seen ≡ held
held_is is_honest content None held found = sym found
held_is is_honest content (Some file) held found = sym found.1

tells : {F : Type 0} (is_honest : F → Bool) (content : F → List ℕ) (seen : Option (Bor F)) (held : Option (List ℕ))
    → IsFound is_honest content (option_copied seen) held → ForSome seen (λ f. IsTrue (is_honest f.now))
tells is_honest content None held found = λ f is. absurd (cc)
tells {F} is_honest content (Some file) held found = λ f is.
    let same : file ≡ f = cc in subst (λ (r : Bor F). IsTrue (is_honest r.now)) same found.0

is_small : {F : Type 0} (is_honest : F → Bool) (content : F → List ℕ) (seen : Option (Bor F)) (held : Option (List ℕ))
    → IsFound is_honest content (option_copied seen) held → ForSome held (λ bytes. length bytes < 2 ^ 63)
    → ForSome seen (λ f. IsTrue (is_honest f.now) × (length (content f.now) < 2 ^ 63))
is_small is_honest content None held found small = λ f is. absurd (cc)
is_small {F} is_honest content (Some file) held found small = λ f is.
    let same : file ≡ f = cc in
    subst (λ (r : Bor F). IsTrue (is_honest r.now) × (length (content r.now) < 2 ^ 63)) same
    (found.0, small (content file.now) found.1)

-- Files that were found hold what is held, so what they lack is what that lacks.
pub lost_as_held : {F : Type 0} (is_honest : F → Bool) (content : F → List ℕ) (root a b : Option F)
    (see_root see_a see_b : Option (Bor F)) (held_root held_a held_b : Option (List ℕ)) (fault : FileFault)
    → option_copied see_root ≡ root → option_copied see_a ≡ a → option_copied see_b ≡ b
    → IsFound is_honest content root held_root → IsFound is_honest content a held_a → IsFound is_honest content b held_b
    → ForSome held_root (λ bytes. length bytes < 2 ^ 63)
    → (ForSome see_root (λ f. IsTrue (is_honest f.now) × (length (content f.now) < 2 ^ 63))
    → ForSome see_a (λ f. IsTrue (is_honest f.now)) → ForSome see_b (λ f. IsTrue (is_honest f.now))
    → IsOfSomeCall fault
    ⊎ IsUnsound (option_map (λ f. content f.now) see_root) (option_map (λ f. content f.now) see_a)
    (option_map (λ f. content f.now) see_b) fault) → IsOfLost fault → IsUnsound held_root held_a held_b fault
lost_as_held {F} is_honest content root a b see_root see_a see_b held_root held_a held_b fault same_root same_a same_b
    root_found a_found b_found small unsound lost =
    let found : Option (List ℕ) → Option F → Type 0 = λ held file. IsFound is_honest content file held in
    let of_root = subst (found held_root) (sym same_root) root_found in
    let of_a = subst (found held_a) (sym same_a) a_found in
    let of_b = subst (found held_b) (sym same_b) b_found in
    ⊎_elim (λ (call : IsOfSomeCall fault). absurd (call_or_lost fault call lost))
    (λ is.
    subst (λ (l : Option (List ℕ)). IsUnsound l held_a held_b fault) (held_is is_honest content see_root held_root of_root)
    (subst (λ (l : Option (List ℕ)). IsUnsound (option_map (λ f. content f.now) see_root) l held_b fault)
    (held_is is_honest content see_a held_a of_a)
    (subst
    (λ (l : Option (List ℕ)).
    IsUnsound (option_map (λ f. content f.now) see_root) (option_map (λ f. content f.now) see_a) l fault)
    (held_is is_honest content see_b held_b of_b) is)))
    (unsound (is_small is_honest content see_root held_root of_root small) (tells is_honest content see_a held_a of_a)
    (tells is_honest content see_b held_b of_b))

small_made : (held : Option (List ℕ)) → ForSome held (λ bytes. length bytes < 2 ^ 63) → length (unwrap_or held []) < 2 ^ 63
small_made None small = omega arith
small_made (Some bytes) small = small bytes refl

seen_tells : {F : Type 0} (is_honest : F → Bool) (file : Bor F) → IsTrue (is_honest file.now)
    → ForSome (Some file) (λ f. IsTrue (is_honest f.now))
seen_tells {F} is_honest file honest = λ f is.
    let same : file ≡ f = cc in subst (λ (r : Bor F). IsTrue (is_honest r.now)) same honest

-- Where nothing was lost before absent files were made, nothing is lost then.
pub made_not_lost : {F : Type 0} (is_honest : F → Bool) (content : F → List ℕ) (root a b : Bor F)
    (held_root held_a held_b : Option (List ℕ)) (fault : FileFault) → Holds is_honest content root.now held_root
    → Holds is_honest content a.now held_a → Holds is_honest content b.now held_b
    → ForSome held_root (λ bytes. length bytes < 2 ^ 63) → IsSound held_root held_a held_b
    → (ForSome (Some root) (λ f. IsTrue (is_honest f.now) × (length (content f.now) < 2 ^ 63))
    → ForSome (Some a) (λ f. IsTrue (is_honest f.now)) → ForSome (Some b) (λ f. IsTrue (is_honest f.now))
    → IsOfSomeCall fault ⊎ IsUnsound (Some (content root.now)) (Some (content a.now)) (Some (content b.now)) fault)
    → IsOfLost fault → ⊥
made_not_lost {F} is_honest content root a b held_root held_a held_b fault root_is a_is b_is small sound unsound lost =
    let root_made : Some (content root.now) ≡ made held_root = ap Some root_is.1 in
    let a_made : Some (content a.now) ≡ made held_a = ap Some a_is.1 in
    let b_made : Some (content b.now) ≡ made held_b = ap Some b_is.1 in
    let short : length (content root.now) < 2 ^ 63 =
    subst (λ (l : List ℕ). length l < 2 ^ 63) (sym root_is.1) (small_made held_root small) in
    ⊎_elim (λ (call : IsOfSomeCall fault). call_or_lost fault call lost)
    (λ is.
    not_both (made held_root) (made held_a) (made held_b) fault (still_sound held_root held_a held_b sound)
    (subst (λ (l : Option (List ℕ)). IsUnsound l (made held_a) (made held_b) fault) root_made
    (subst (λ (l : Option (List ℕ)). IsUnsound (Some (content root.now)) l (made held_b) fault) a_made
    (subst (λ (l : Option (List ℕ)). IsUnsound (Some (content root.now)) (Some (content a.now)) l fault) b_made is))))
    (unsound
    (λ f is.
    let same : root ≡ f = cc in
    subst (λ (r : Bor F). IsTrue (is_honest r.now) × (length (content r.now) < 2 ^ 63)) same (root_is.0, short))
    (seen_tells is_honest a a_is.0) (seen_tells is_honest b b_is.0))
