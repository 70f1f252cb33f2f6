use Rattle.std.proofs.Common.{◌≡◌, ◌&&◌, Bool, ap, not, rules}
use Rattle.nx_log.proofs.lemmas.texts.QueryTexts.{last-else, last-then, none-before}
use Rattle.nx_log.proofs.queries.query.Query.admits.Goals as goal
use Rattle.nx_log.specs.Query as spec
use Rattle.nx_log.specs.Query.{admits}
use Rattle.nx_log.specs.View.{copy_said}
use Rattle.nx_copies.specs.copies.Printing.{is_good}

pub returns-then-not-self : goal.returns-then-not-self
unfolding admits
returns-then-not-self c = λ text errors characters.
    let query = c.args.self.now in
    let head = c.args.head.now in
    let station : Bool = spec.is_among query.stations head.identity.b1.byte in
    let subject : Bool = spec.is_among query.subjects head.identity.b2.byte in
    let channel : Bool = spec.is_heard_on query.channel head.channel in
    let since : Bool = spec.is_since query.since head.moment in
    let until : Bool = spec.is_until query.until head.moment in
    let two : c.if-is_among.value ≡ (station && subject) = search rules in
    let three : c.if-is_among-2.value ≡ (station && subject && channel) = search rules in
    let four : c.if-is_heard_on.value ≡ (station && subject && channel && since) = search rules in
    let five : c.if-is_since.value ≡ (station && subject && channel && since && until) =
    search rules in
    last-then _ _ (not query.good) (is_good (copy_said head text).copy) five c.if-is_until.true
    (ap not c.if-not-self.true)

pub returns-else-not-self : goal.returns-else-not-self
unfolding admits
returns-else-not-self c = λ text errors characters.
    let query = c.args.self.now in
    let head = c.args.head.now in
    let station : Bool = spec.is_among query.stations head.identity.b1.byte in
    let subject : Bool = spec.is_among query.subjects head.identity.b2.byte in
    let channel : Bool = spec.is_heard_on query.channel head.channel in
    let since : Bool = spec.is_since query.since head.moment in
    let until : Bool = spec.is_until query.until head.moment in
    let two : c.if-is_among.value ≡ (station && subject) = search rules in
    let three : c.if-is_among-2.value ≡ (station && subject && channel) = search rules in
    let four : c.if-is_heard_on.value ≡ (station && subject && channel && since) = search rules in
    let five : c.if-is_since.value ≡ (station && subject && channel && since && until) =
    search rules in
    last-else _ _ (not query.good) (is_good (copy_said head text).copy) c.is_good.result five
    c.if-is_until.true (ap not c.if-not-self.false) (c.is_good.ensures text errors characters)

pub returns-else-is_until : goal.returns-else-is_until
unfolding admits
returns-else-is_until c = λ text errors characters.
    let query = c.args.self.now in
    let head = c.args.head.now in
    let station : Bool = spec.is_among query.stations head.identity.b1.byte in
    let subject : Bool = spec.is_among query.subjects head.identity.b2.byte in
    let channel : Bool = spec.is_heard_on query.channel head.channel in
    let since : Bool = spec.is_since query.since head.moment in
    let until : Bool = spec.is_until query.until head.moment in
    let two : c.if-is_among.value ≡ (station && subject) = search rules in
    let three : c.if-is_among-2.value ≡ (station && subject && channel) = search rules in
    let four : c.if-is_heard_on.value ≡ (station && subject && channel && since) = search rules in
    let five : c.if-is_since.value ≡ (station && subject && channel && since && until) =
    search rules in
    none-before _ _ _ five c.if-is_until.false
