-- `session::Session::run_calls` meets its contract. Assumes nothing.
use Rattle.session.proofs.Shows.{ready, text_read, text_write}
use Rattle.session.proofs.Session.run_calls.Goals as goal

pub returns-then-self-eq-READER : goal.returns-then-self-eq-READER
returns-then-self-eq-READER c = text_read _ _ _ (ready c.args.self.now.whole c.args.self.now.replies) _ _ _ c.session_line.ensures c.if-self-eq-READER.true c.read_calls.ensures

pub returns : goal.returns
returns c = text_write _ _ _ (ready c.args.self.now.whole c.args.self.now.replies) _ _ _ c.session_line.ensures c.if-self-eq-READER.false c.write_calls.ensures
