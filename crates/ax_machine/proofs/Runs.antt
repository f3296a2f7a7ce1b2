-- Runs of lines, one after another.
use Rattle.std.proofs.Common.{◌≡◌, ℕ, List, [], ◌∷◌, ◌++◌, map, refl, sym, ap, ◌∙◌}
use Rattle.std.proofs.Common.{append_assoc, append-nil}
use Rattle.std.specs.List.{concat, AllByRecursion}
use Rattle.ax_container.specs.Container.{Container}
use Rattle.ax_machine.specs.ReplyTexts.{reply_text}
use Rattle.ax_machine.specs.Run.{Outcome, Served, Exchange, after_line, reply_to, lines_of, after}
use Rattle.ax_machine.specs.Run.{texts, text_of}

-- ---- a run of lines that are all served

abbrev all_served : List (List ℕ) → List Exchange
all_served lines = map (λ line. record { line = line; outcome = Served }) lines

lines-all_served : (lines : List (List ℕ)) → lines_of (all_served lines) ≡ lines
lines-all_served [] = refl
lines-all_served (line ∷ lines) = ap (λ l. line ∷ l) (lines-all_served lines)

served-all_served : (lines : List (List ℕ))
    → AllByRecursion (λ exchange. exchange.outcome ≡ Served) (all_served lines)
served-all_served [] = tt
served-all_served (line ∷ lines) = (refl, served-all_served lines)

pub there_is_a_run : (lines : List (List ℕ)) → (run : List Exchange) × (lines_of run ≡ lines)
    × AllByRecursion (λ exchange. exchange.outcome ≡ Served) run
there_is_a_run lines = (all_served lines, lines-all_served lines, served-all_served lines)

-- ---- a run, and then more

pub lines_of-append : (run more : List Exchange)
    → lines_of (run ++ more) ≡ lines_of run ++ lines_of more
lines_of-append [] more = refl
lines_of-append (exchange ∷ run) more = ap (λ l. exchange.line ∷ l) (lines_of-append run more)

pub after-append : (before : Container) (run more : List Exchange)
    → after before (run ++ more) ≡ after (after before run) more
after-append before [] more = refl
after-append before (exchange ∷ run) more =
    after-append (after_line before exchange.line exchange.outcome) run more

pub texts-append : (before : Container) (run more : List Exchange)
    → texts before (run ++ more) ≡ texts before run ++ texts (after before run) more
texts-append before [] more = refl
texts-append before (exchange ∷ run) more =
    ap (λ l. reply_text (reply_to before exchange.line exchange.outcome) ∷ l)
    (texts-append (after_line before exchange.line exchange.outcome) run more)

concat-append : (a b : List (List ℕ)) → concat (a ++ b) ≡ concat a ++ concat b
concat-append [] b = refl
concat-append (text ∷ a) b = ap (λ l. text ++ l) (concat-append a b)
    ∙ sym (append_assoc text (concat a) (concat b))

pub text_of-append : (before : Container) (run more : List Exchange)
    → text_of before (run ++ more) ≡ text_of before run ++ text_of (after before run) more
text_of-append before run more =
    ap concat (texts-append before run more)
    ∙ concat-append (texts before run) (texts (after before run) more)

-- the text of one line is its reply
pub text_of-one : (before : Container) (line : List ℕ) (outcome : Outcome)
    → text_of before (record { line = line; outcome = outcome } ∷ []) ≡ reply_text
    (reply_to before line outcome)
text_of-one before line outcome = append-nil (reply_text (reply_to before line outcome))
