use Rattle.std.proofs.Common.{refl, [], ◌∷◌, codes, arith}
use Rattle.ufmt.specs.Document.{documents, tuple_of}
use Rattle.ufmt_parser.specs.Taking.{open_blocks, rest, setting_in}
use Rattle.ufmt_parse.proofs.OptionTexts.{after_none, option_refused, some_taken}
use Rattle.ufmt_parser.proofs.Words.{word_is_leaf}
use Rattle.ufmt_parse.proofs.core_impls.options.OptionalParsesByOption.parse_by.Goals as goal

pub returns-then-eat-clause-takes : goal.returns-then-eat-clause-takes
returns-then-eat-clause-takes g c = record {
  cases = (
    c.if-eat.ensures.eats,
    (tt, (word_is_leaf (codes "None") (refl, (refl, (refl, (refl, tt)))), omega (arith, c.eat.ensures.counted))),
    λ w u is may same. after_none g.T.uDebug.document (setting_in g.M.ParseMode.mode (open_blocks c.args.parser.now)) c.if-eat.ensures.eats w u same,
  );
}

pub returns-then-not-is_named-clause-takes : goal.returns-then-not-is_named-clause-takes
returns-then-not-is_named-clause-takes g c =
    option_refused g.M.ParseMode.mode g.P.ParsesBy.is_value g.T.uDebug.document c.args.parser.now c.eat.new.self (c.if-eat.ensures.stays refl) c.if-eat.ensures.blocks c.if-eat.ensures.eats
    c.refuse_in_detail.result (rest c.refuse_in_detail.new.self) (λ is_not x is. c.if-not-is_named.ensures.none (tuple_of (codes "Some") (documents (g.T.uDebug.document x ∷ []))) refl)

pub returns-clause-takes : goal.returns-clause-takes
returns-clause-takes g c =
    some_taken g.M.ParseMode.mode g.P.ParsesBy.is_value g.T.uDebug.document c.args.parser.now c.eat.new.self (c.if-eat.ensures.stays refl) c.if-eat.ensures.blocks c.if-eat.ensures.eats
    c.in-Ok.value c.parse_tuple_1.new.parser c.in-Ok.ensures.values c.in-Ok.ensures.taken (λ x is. c.in-Ok.ensures.only (codes "Some") x refl is)

pub returns-in-Err-clause-takes : goal.returns-in-Err-clause-takes
returns-in-Err-clause-takes g c =
    option_refused g.M.ParseMode.mode g.P.ParsesBy.is_value g.T.uDebug.document c.args.parser.now c.eat.new.self (c.if-eat.ensures.stays refl) c.if-eat.ensures.blocks c.if-eat.ensures.eats
    c.in-Err.fault (rest c.parse_tuple_1.new.parser) (λ is_not x is. c.in-Err.ensures.none is_not (codes "Some") x refl is)
