-- A run that nothing outside disturbs is carried out, and what a delivered answer leaves.
use Rattle.std.proofs.Common.{◌≡◌, ◌⊎◌, ℕ, List, [], ◌∷◌, ◌++◌, Option, Some, None, IfSome, MatchOption, inl, inr, refl, sym, ap, ◌∙◌, arith, subst}
use Rattle.std.proofs.lemmas.Option.{same_Some}
use Rattle.vkb_outside.specs.Faults.{Rose}
use Rattle.vkb_outside.specs.Shelf.{Files, ChangesAtMost}
use Rattle.lift_check.specs.declared.Verdict.TheVariants.{Yes, No}
use Rattle.vkb_tool.specs.declared.status.Status.{Status}
use Rattle.vkb_tool.specs.declared.status.Status.TheVariants.{Done, Broken, Usage, ReadFault, WriteFault, Memory}
use Rattle.vkb_tool.specs.declared.answer.Answer.{Answer}
use Rattle.vkb_tool.specs.declared.words.Request.{Request}
use Rattle.vkb_tool.specs.Answer.{AnswersMisplaced, AnswersRequest, AnswersWords, ArePut, Delivers, IsRequestStatus, IsUnput, delivered, undelivered, unready, unwritten, effect_of}
use Rattle.vkb_tool.specs.Endings.{World, HoldsFiles, Ending, IsAlways, IsCarriedOut, IsComplete, IsUnfailing, IsUntouched, EndsMisplaced, RunsOut, completes, fails_reading, fails_putting, fails_writing, runs_out, files_after}
use Rattle.vkb_tool.specs.Outcome.{Effect, HasNoFault, Outcome, Put, built, checked, declared, misplaced, refused, tagged}
use Rattle.vkb_tool.specs.Words.{Spells, IsMisplaced}
use Rattle.vkb_tool.proofs.WordsLemmas.{one_position, same_request}

-- a count that rose is no count that stays below its end
calm : (before now : ℕ) → Rose before now → IsUnfailing before now → ⊥
calm before now rose quiet = let more = rose.more in let same = quiet.0 in let low = quiet.1 in omega arith

-- a request without faults is answered with yes or no
answered : (words : List (List ℕ)) (files : Files) (effect : Effect) → Outcome words files effect → (request : Request) → Spells words request → HasNoFault request files
    → (effect.status ≡ Done) ⊎ (effect.status ≡ Broken)
answered words files effect (misplaced position is) request spelled faults = absurd (is.none request spelled)
answered words files effect (refused other fault asked is) request spelled faults =
    let none : HasNoFault other files = subst (λ (r : Request). HasNoFault r files) (same_request words request other spelled asked) faults in
    absurd (none fault is)
answered words files effect (checked registry root api always r lines (Yes links) asked none is judged) request spelled faults = inl refl
answered words files effect (checked registry root api always r lines (No place id choice count) asked none is judged) request spelled faults = inr refl
answered words files effect (built registry root api names always r lines chosen set asked none tells) request spelled faults = inl refl
answered words files effect (declared registry api names r chosen order asked none tells) request spelled faults = inl refl
answered words files effect (tagged first names pages asked none tells) request spelled faults = inl refl

pub is_complete : (words : List (List ℕ)) (files : Files) (status : Status) (old new : World) → Ending words files status old new → IsComplete words files status old new
is_complete words files status old new (completes e) quiet request spelled faults =
    inl (e, elim (answered words files e.effect e.outcome request spelled faults) [ inl done ↦ inl (e.is ∙ done) | inr broken ↦ inr (e.is ∙ broken) ])
is_complete words files status old new (fails_reading e) quiet request spelled faults = absurd (calm old.read_faults new.read_faults e.rose quiet.reads)
is_complete words files status old new (fails_putting e) quiet request spelled faults = absurd (calm old.put_faults new.put_faults e.rose quiet.puts)
is_complete words files status old new (fails_writing e) quiet request spelled faults = absurd (calm old.write_faults new.write_faults e.rose quiet.writes)
is_complete words files status old new (runs_out e) quiet request spelled faults = inr e

-- what was delivered after the answer was found, which changed nothing
pub after_answering : (effect : Effect) (status : Status) (old mid new : World) → mid.files ≡ old.files → mid.written ≡ old.written → mid.read_faults ≡ old.read_faults → mid.put_faults ≡ old.put_faults
    → mid.write_faults ≡ old.write_faults → Delivers effect status mid new → Delivers effect status old new
after_answering effect status old mid new files written reads puts writes how =
    let same : mid ≡ old = λ i. record { files = files i; written = written i; read_faults = reads i; put_faults = puts i; write_faults = writes i } in
    subst (λ (w : World). Delivers effect status w new) same how

-- ---- on a shelf that tells its files

-- what the shelf holds after puts
holds_put : (puts : List Put) (files : Files) (told now : Option Files) → told ≡ Some files → ArePut puts told now → HoldsFiles now (files_after puts files)
holds_put puts files None now same are = cc
holds_put puts files (Some old) None same are = absurd are
holds_put puts files (Some old) (Some new) same are =
    let one : old ≡ files = same_Some old files same in
    subst (λ (f : Files). HoldsFiles (Some new) (files_after puts f)) one are

-- and after a put that failed
holds_unput : (done : List Put) (failed : Put) (files : Files) (told now : Option Files) → told ≡ Some files → IsUnput done failed told now → MatchOption now ⊥ (ChangesAtMost failed.0 (files_after done files))
holds_unput done failed files None now same are = cc
holds_unput done failed files (Some old) None same are = absurd are
holds_unput done failed files (Some old) (Some new) same are =
    let one : old ≡ files = same_Some old files same in
    subst (λ (f : Files). ChangesAtMost failed.0 (files_after done f) new) one are

-- what a delivered answer leaves
delivered_ends : (words : List (List ℕ)) (files : Files) (effect : Effect) (status : Status) (old new : World) → old.files ≡ Some files → Outcome words files effect → Delivers effect status old new → Ending words files status old new
delivered_ends words files effect status old new told outcome (delivered d) =
    completes (record { effect = effect; outcome = outcome; is = d.is; written = d.written; put = holds_put effect.puts files old.files new.files told d.put; steady = d.steady })
delivered_ends words files effect status old new told outcome (undelivered u) =
    fails_putting (record {
      effect = effect;
      outcome = outcome;
      done = u.fails.done;
      failed = u.fails.failed;
      left = u.fails.left;
      puts = u.fails.here;
      is = u.is;
      rose = u.rose;
      held = holds_unput u.fails.done u.fails.failed files old.files new.files told u.fails.unput;
      written = u.written;
      same_reads = u.same_reads;
      same_writes = u.same_writes;
    })
delivered_ends words files effect status old new told outcome (unwritten u) =
    fails_writing (record { effect = effect; outcome = outcome; is = u.is; rose = u.rose; put = holds_put effect.puts files old.files new.files told u.put; written = u.written; same_reads = u.same_reads; same_puts = u.same_puts })
delivered_ends words files effect status old new told outcome (unready none) = runs_out none

pub delivered_all : (told : Option Files) (words : List (List ℕ)) (effect : Effect) (status : Status) (old new : World) → old.files ≡ told
    → IfSome told (λ files. Outcome words files effect) → Delivers effect status old new → IfSome told (λ files. Ending words files status old new)
delivered_all None words effect status old new was outcome how = tt
delivered_all (Some files) words effect status old new was outcome how = delivered_ends words files effect status old new was outcome how

-- ---- on any shelf

-- a status that another one isn't
request_status : (answer : Answer) (status : Status) → IsRequestStatus answer.status → answer.status ≡ status → IsRequestStatus status
request_status answer status is same = subst (λ (s : Status). IsRequestStatus s) same is

-- a list with something in it is not empty
put_some : (done : List Put) (failed : Put) (left : List Put) → [] ≡ done ++ failed ∷ left → ⊥
put_some [] failed left same = cc
put_some (first ∷ done) failed left same = cc

-- where nothing is put, the shelf holds what it held
nothing_put : (puts : List Put) (old new : Option Files) → puts ≡ [] → ArePut puts old new → new ≡ old
nothing_put puts None None none are = refl
nothing_put puts None (Some new) none are = absurd are
nothing_put puts (Some old) None none are = absurd are
nothing_put puts (Some old) (Some new) none are =
    let each : (name : List ℕ) → new name ≡ old name = λ name. are name ∙ ap (λ (ps : List Put). files_after ps old name) none in
    let same : new ≡ old = λ i. λ name. each name i in
    ap Some same

-- what stands of a run that ran out of memory
out_of_memory : (words : List (List ℕ)) (status : Status) (old new : World) → ((position : ℕ) → IsMisplaced words position → EndsMisplaced position status old new) → RunsOut status old new → IsAlways words status old new
out_of_memory words status old new ends none = record {
  usage = λ same. let is = none.is in cc;
  misplaced = ends;
  apart = λ _. (none.put, none.steady.reads, none.steady.puts);
  steady = λ carried. absurd (subst (λ (s : Status). IsCarriedOut s) none.is carried);
  reading = λ same. let is = none.is in cc;
  writing = λ same. let is = none.is in cc;
  read = λ same. none.steady.reads;
  memory = λ same. none;
}

-- what stands of a run whose answer to a request was delivered
request_always : (words : List (List ℕ)) (answer : Answer) (status : Status) (old new : World) → AnswersRequest words answer → Delivers (effect_of answer) status old new → IsAlways words status old new
request_always words answer status old new a (delivered d) = record {
  usage = λ same. absurd (request_status answer Usage a.is (sym d.is ∙ same));
  misplaced = λ position none. absurd (none.none a.request a.asked);
  apart = λ none. absurd (none a.request a.asked a.reads);
  steady = λ carried. d.steady;
  reading = λ same. absurd (request_status answer ReadFault a.is (sym d.is ∙ same));
  writing = λ same. absurd (request_status answer WriteFault a.is (sym d.is ∙ same));
  read = λ same. d.steady.reads;
  memory = λ same. absurd (request_status answer Memory a.is (sym d.is ∙ same));
}
request_always words answer status old new a (undelivered u) = record {
  usage = λ same. cc;
  misplaced = λ position none. absurd (none.none a.request a.asked);
  apart = λ none. absurd (none a.request a.asked a.reads);
  steady = λ carried. absurd (subst (λ (s : Status). IsCarriedOut s) u.is carried);
  reading = λ same. cc;
  writing = λ same. inr (a.request, a.asked, a.puts (λ empty. put_some u.fails.done u.fails.failed u.fails.left (sym empty ∙ u.fails.here)), u.rose);
  read = λ same. u.same_reads;
  memory = λ same. cc;
}
request_always words answer status old new a (unwritten u) = record {
  usage = λ same. cc;
  misplaced = λ position none. absurd (none.none a.request a.asked);
  apart = λ none. absurd (none a.request a.asked a.reads);
  steady = λ carried. absurd (subst (λ (s : Status). IsCarriedOut s) u.is carried);
  reading = λ same. cc;
  writing = λ same. inl u.rose;
  read = λ same. u.same_reads;
  memory = λ same. cc;
}
request_always words answer status old new a (unready none) = out_of_memory words status old new (λ position is. absurd (is.none a.request a.asked)) none

-- what stands of a run whose answer to words that are no request was delivered
misplaced_always : (words : List (List ℕ)) (answer : Answer) (status : Status) (old new : World) → AnswersMisplaced words answer → Delivers (effect_of answer) status old new → IsAlways words status old new
misplaced_always words answer status old new a (delivered d) =
    let untouched : IsUntouched old new = nothing_put (effect_of answer).puts old.files new.files a.puts d.put in
    record {
      usage = λ same. (a.position, a.misplaced);
      misplaced = λ other also. rw (one_position words other a.position also a.misplaced, sym a.output) (inl (d.is ∙ a.is, d.written));
      apart = λ none. (untouched, d.steady.reads, d.steady.puts);
      steady = λ carried. d.steady;
      reading = λ same. let usage = d.is ∙ a.is in cc;
      writing = λ same. let usage = d.is ∙ a.is in cc;
      read = λ same. d.steady.reads;
      memory = λ same. let usage = d.is ∙ a.is in cc;
    }
misplaced_always words answer status old new a (undelivered u) = absurd (put_some u.fails.done u.fails.failed u.fails.left (sym a.puts ∙ u.fails.here))
misplaced_always words answer status old new a (unwritten u) =
    let untouched : IsUntouched old new = nothing_put (effect_of answer).puts old.files new.files a.puts u.put in
    record {
      usage = λ same. (a.position, a.misplaced);
      misplaced = λ other also. rw (one_position words other a.position also a.misplaced, sym a.output) (inr (inl (u.is, u.written)));
      apart = λ none. (untouched, u.same_reads, u.same_puts);
      steady = λ carried. absurd (subst (λ (s : Status). IsCarriedOut s) u.is carried);
      reading = λ same. cc;
      writing = λ same. inl u.rose;
      read = λ same. u.same_reads;
      memory = λ same. cc;
    }
misplaced_always words answer status old new a (unready none) =
    out_of_memory words status old new (λ position is. inr (inr (none.is, none.written))) none

pub delivered_always : (words : List (List ℕ)) (answer : Answer) (status : Status) (old new : World) → AnswersWords words answer → Delivers (effect_of answer) status old new → IsAlways words status old new
delivered_always words answer status old new (inl a) how = request_always words answer status old new a how
delivered_always words answer status old new (inr a) how = misplaced_always words answer status old new a how
