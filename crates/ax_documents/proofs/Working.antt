-- The text of the document of an id, and what looking it up and then reading it leave together.
use Rattle.std.proofs.Common.{◌≡◌, ◌⊎◌, inl, inr, ℕ, Bool, false, List, Option, Some, None, Result, Ok, Err, refl, sym, ap, subst, ◌∙◌, arith}
use Rattle.std.specs.Prelude.{option_map, IfErr, IsTrue}
use Rattle.std.specs.FinMap as finite
use Rattle.std.specs.Global.{Vec}
use Rattle.ax_area.specs.Contents.{Contents, Stored}
use Rattle.ax_cache.specs.Pages.{CachedPages}
use Rattle.ax_container.specs.Container.{Container, Entry, tree_of}
use Rattle.ax_disk.specs.laws.StaysLaws.{idles_join}
use Rattle.ax_disk.specs.model.Moments.{History}
use Rattle.ax_image.specs.Documents.{ContentsHold}
use Rattle.ax_image_pairs.specs.Found.{number_in}
use Rattle.ax_index.specs.Damage.{FailsBy}
use Rattle.ax_pool.specs.Frames.{Frames, bytes_at}
use Rattle.ax_store.specs.Faults.{HasDiskCause}
use Rattle.ax_store.specs.Reads.{ReadsStore}
use Rattle.ax_store.specs.Store.{AgreesUnlessFailed, store_failed, store_slots}
use Rattle.ax_store.specs.declared.fault.StoreFault.{StoreFault}
use Rattle.ax_store.specs.declared.fault.StoreFault.TheVariants as fault
use Rattle.ax_store.specs.declared.store.Store.{Store}
use Rattle.ax_tree.specs.CanonicalText.{canonical_text}
use Rattle.ax_write.proofs.FoundNumbers.{number_there, text_of}
use Rattle.ax_write.specs.Writes.{IsLookedUp, Looks, TellsDamage}
use Rattle.ax_documents.specs.Documents.{IsReadOf}

-- the text under the number that a container has for an id is that of the document of the id
pub text_of_id : (contents : Contents) (before : Container) → ContentsHold contents before → (id : List ℕ) (number : ℕ)
    → Some number ≡ number_in id before
    → option_map (λ (document : Stored). document.text) (finite.get contents.documents number)
    ≡ option_map canonical_text (tree_of id before)
text_of_id contents before hold id number is =
    let there = number_there id before number is in
    ap (λ n. option_map (λ (document : Stored). document.text) (finite.get contents.documents n)) there.2
    ∙ text_of contents before id there.0 hold there.1
    ∙ sym (ap (λ (o : Option Entry). option_map canonical_text (option_map (λ (entry : Entry). entry.tree) o)) there.1)

-- ---- a look-up, and a text that is read behind it

-- neither tells of damage
told_by : {C T : Type 0} (store : Store C) (result : Result T StoreFault) → IfErr result (λ why. (why ≡ fault.Disk) ⊎ (why ≡ fault.Memory))
    → IfErr result (TellsDamage store)
told_by store (Ok value) only = tt
told_by store (Err why) (inl disk) = subst (TellsDamage store) (sym disk) tt
told_by store (Err why) (inr memory) = subst (TellsDamage store) (sym memory) tt

pub looks_behind : {C A B : Type 0} (pages : C → CachedPages) (honest then : Bool) → then ≡ honest → (value : A) (result : Result B StoreFault)
    (old mid new : Store C) (before between after : History) (first count last : ℕ)
    → Looks pages honest (Ok value) old mid before between first count
    → IfErr result (λ why. (why ≡ fault.Disk) ⊎ (why ≡ fault.Memory))
    → ReadsStore pages then mid new between after count last → store_slots new ≡ store_slots mid
    → FailsBy result (store_failed mid) (store_failed new) → (store_failed mid ≡ false → HasDiskCause result count last)
    → Looks pages honest result old new before after first last
looks_behind pages honest then same value result old mid new before between after first count last looks only reads slots fails cause = record {
  told = λ h. told_by old result only;
  reads = record {
    same = record {
      same = record {
        logged = reads.same.logged ∙ looks.reads.same.same.logged;
        pages = reads.same.pages ∙ looks.reads.same.same.pages;
      };
      taken = ap (λ (frames : Frames). frames.taken) slots ∙ looks.reads.same.taken;
    };
    agrees = subst (λ h. AgreesUnlessFailed pages h new after) same reads.agrees;
    lists = λ h. idles_join before between after (looks.reads.lists h) (reads.lists (subst IsTrue (sym same) h));
    never_falls = omega (arith, looks.reads.never_falls, reads.never_falls);
  };
  others = λ number taken. ap (λ (frames : Frames). bytes_at frames number) slots ∙ looks.others number taken;
  fails = subst (λ was. FailsBy result was (store_failed new)) looks.fails fails;
  cause = λ works. subst (λ n. HasDiskCause result n last) (looks.cause works).uncounted (cause (looks.fails ∙ works));
}

-- ---- what READ has met

none_of : (held : Option Stored) → None ≡ option_map (λ (document : Stored). document.text) held → held ≡ None
none_of None is = refl
none_of (Some document) is = absurd cc

-- a number that was told, and the text that was read under it
pub read_met : (ids : List (List ℕ × ℕ)) (id : List ℕ) (contents : Contents) (number : ℕ) (found : Option (Vec ℕ))
    → IsLookedUp ids id contents (Some number)
    → option_map (λ (text : Vec ℕ). text.items) found
    ≡ option_map (λ (document : Stored). document.text) (finite.get contents.documents number)
    → IsReadOf ids id contents found
read_met ids id contents number None told is =
    inr (record { number = number; told = told; none = inr (none_of (finite.get contents.documents number) is) })
read_met ids id contents number (Some text) told is = (number, told, sym is)
