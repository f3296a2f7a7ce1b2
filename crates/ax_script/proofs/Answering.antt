-- What runs of lines are answered, one after another.
use Rattle.std.proofs.Common.{◌≡◌, ℕ, List, [], ◌++◌, refl, sym, ap, ◌∙◌, subst, append_assoc}
use Rattle.std.proofs.Common.{append-nil, ◌≤◌, length, length-append, arith}
use Rattle.ax_container.specs.Container.{Container}
use Rattle.ax_machine.specs.Run.{Exchange, after, text_of}
use Rattle.ax_machine.proofs.Runs.{there_is_a_run, lines_of-append, after-append, text_of-append}
use Rattle.ax_script.specs.Script.{Answers, BeginsToAnswer}

-- a run of no lines
pub Answers-nil : (before : Container) → Answers before [] [] []
Answers-nil before = record { answered = refl; replies = refl }

-- some run of the lines, with all of its text
pub answers_some : (before : Container) (lines : List (List ℕ))
    → (run : List Exchange) × Answers before lines run (text_of before run)
answers_some before lines =
    let some = there_is_a_run lines in
    (some.0, record { answered = some.1; replies = refl })

-- ---- a run, and then more

pub Answers-append : (a b : Container) (lines more : List (List ℕ)) (run later : List Exchange)
    (text other : List ℕ)
    → Answers a lines run text → b ≡ after a run → Answers b more later other
    → Answers a (lines ++ more) (run ++ later) (text ++ other)
Answers-append a b lines more run later text other first stands second = record {
  answered = lines_of-append run later ∙ (λ i. first.answered i ++ second.answered i);
  replies = (λ i. first.replies i ++ (second.replies ∙ ap (λ c. text_of c later) stands) i)
      ∙ sym (text_of-append a run later);
}

pub BeginsToAnswer-append : (a b : Container) (lines more : List (List ℕ))
    (run later : List Exchange) (text other : List ℕ)
    → Answers a lines run text → b ≡ after a run → BeginsToAnswer b more later other
    → BeginsToAnswer a (lines ++ more) (run ++ later) (text ++ other)
BeginsToAnswer-append a b lines more run later text other first stands second = record {
  rest = second.rest;
  answers = subst (Answers a (lines ++ more) (run ++ later))
      (sym (append_assoc text other second.rest))
      (Answers-append a b lines more run later text
      (other ++ second.rest) first stands second.answers);
}

pub stands-append : (a b c : Container) (run later : List Exchange) → b ≡ after a run
    → c ≡ after b later
    → c ≡ after a (run ++ later)
stands-append a b c run later first second =
    second ∙ ap (λ x. after x later) first ∙ sym (after-append a run later)

-- ---- prefixes

-- all of the text is a prefix of it
pub BeginsToAnswer-all : (a : Container) (lines : List (List ℕ)) (run : List Exchange)
    (text : List ℕ)
    → Answers a lines run text → BeginsToAnswer a lines run text
BeginsToAnswer-all a lines run text answers = record {
  rest = [];
  answers = subst (Answers a lines run) (sym (append-nil text)) answers;
}

-- what begins to answer some lines begins to answer more
pub begins_more : (a : Container) (lines more : List (List ℕ)) (run : List Exchange) (text : List ℕ)
    → BeginsToAnswer a lines run text → (later : List Exchange)
    × BeginsToAnswer a (lines ++ more) (run ++ later) text
begins_more a lines more run text begun =
    let now : Container = after a run in
    let some = answers_some now more in (
      some.0,
      record {
        rest = begun.rest ++ text_of now some.0;
        answers = subst (Answers a (lines ++ more) (run ++ some.0))
            (append_assoc text begun.rest (text_of now some.0))
            (Answers-append a now lines more run some.0 (text ++ begun.rest)
            (text_of now some.0) begun.answers refl some.1);
      },
    )

-- a prefix of the text of a run is no longer than it
pub prefix_len : (a : Container) (lines : List (List ℕ)) (run : List Exchange) (text : List ℕ)
    → BeginsToAnswer a lines run text → length text ≤ length (text_of a run)
prefix_len a lines run text begun =
    omega (arith, ap length begun.answers.replies, length-append text begun.rest)
