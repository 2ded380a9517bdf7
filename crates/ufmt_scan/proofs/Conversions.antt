-- What conversions to a `String` or a buffer promise, from what those to a writer promise.
use Rattle.std.proofs.Common.{◌≡◌, ◌∙◌, ap, sym, subst, refl, List, ℕ, [], ◌++◌, length, Result, Ok, Err, Global, String, string_bytes}
use Rattle.std.specs.Prelude.{⊤}
use Rattle.std.specs.Result.{IsErrAnd}
use Rattle.std.specs.declared.alloc.AllocError.{AllocError}
use Rattle.ufmt_core.proofs.Fronts.{fronts_refused, fronts_whole, keeps_length}
use Rattle.ufmt_core.specs.Cursor.{cursor_seen, unwritten_bytes, written_bytes}
use Rattle.ufmt_core.specs.Document.{Document}
use Rattle.ufmt_grammar.specs.declared.class.Class.{Class}
use Rattle.ufmt_core.specs.declared.cursor.Cursor.{Cursor}
use Rattle.ufmt_core.specs.declared.cursor.Full.{Full}
use Rattle.ufmt_scan.specs.Private.Growing.{growing_seen, growing_text}
use Rattle.ufmt_scan.specs.Texts.{Converts, ConvertsInto, ConvertsTo, IsConverted, NoDocumentPrints}
use Rattle.ufmt_scan.specs.declared.convert.growing.Growing.{Growing}
use Rattle.ufmt_scan.specs.Scan.{ScanError}

-- a text that was converted is converted back to the text that it was
pub comes_back : (class : Class) (from to : Document → List ℕ) (earlier input outcome : List ℕ) → IsConverted class to from earlier input → IsConverted class from to input outcome → outcome ≡ earlier
comes_back class from to earlier input outcome was is =
    let d = was.some.0 in
    sym (is.each d was.some.1 (was.each d was.some.1 was.some.2)) ∙ was.some.2

-- it is a text
pub never_refused : (class : Class) (from to : Document → List ℕ) (earlier input : List ℕ) → IsConverted class to from earlier input → NoDocumentPrints class from input → ⊥
never_refused class from to earlier input was none = none was.some.0 was.some.1 (was.each was.some.0 was.some.1 was.some.2)

module _ {class : Class} {from to : Document → List ℕ} {input : List ℕ} {done : ⊤} where
  -- the text that is written to an empty one is the input's other text
  pub converts : {old new : Growing} {text : String Global} → ConvertsTo {E = AllocError} growing_seen class from to input old (Ok done) new → growing_text old ≡ []
      → string_bytes text ≡ growing_text new → Converts class from to input (Ok text)
  converts {text = text} h empty whole =
      let other = h.ok refl in
      let all : string_bytes text ≡ other.0 = whole ∙ (h.writes other.0 other.1).appended tt ∙ ap (λ t. t ++ other.0) empty in
      record { ok = subst (IsConverted class from to input) (sym all) other.1; not_text = λ refused. absurd (cc) }

  -- the same for the front of a buffer: all of the text or a prefix
  module _ {old : List ℕ} {begun ended : Cursor} (written : written_bytes begun ≡ []) (unwritten : unwritten_bytes begun ≡ old) where
    pub into_whole : ConvertsTo {E = Full} cursor_seen class from to input begun (Ok done) ended
        → ConvertsInto {E = Full} class from to input old (Ok (length (written_bytes ended))) ended.buffer.now
    into_whole h = record {
      ok = h.ok;
      not_text = λ refused. absurd (cc);
      fronts = λ text other. fronts_whole old begun ended written unwritten text (h.writes text other);
      same_length = keeps_length old begun ended written unwritten h.lawful.0 h.lawful.2;
    }

    pub into_refused : {refusal : ScanError Full} → ConvertsTo cursor_seen class from to input begun (Err refusal) ended → (result : Result ℕ (ScanError Full))
        → IsErrAnd result (λ e. e ≡ refusal) → ConvertsInto {E = Full} class from to input old result ended.buffer.now
    into_refused h (Ok n) same = absurd same
    into_refused {refusal = refusal} h (Err e) same = record {
      ok = λ is_ok. absurd (cc);
      not_text = λ none. h.not_text (cc);
      fronts = λ text other. fronts_refused old begun ended written unwritten text (λ e. e ≡ refusal) (Err e) same (h.writes text other);
      same_length = keeps_length old begun ended written unwritten h.lawful.0 h.lawful.2;
    }
