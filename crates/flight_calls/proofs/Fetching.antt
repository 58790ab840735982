-- The fetch that a stream answers.
use Rattle.std.proofs.Common.{Result, Ok, inl, sym, subst}
use Rattle.scan_base.specs.declared.fault.Fault.{Fault}
use Rattle.grpc_frame.specs.Outgoing.{Outgoing}
use Rattle.endpoint_split.specs.Handle.{HandleAt}
use Rattle.table_versions.specs.Database.{Database}
use Rattle.flight_info.specs.Replies.{ReplyAt}
use Rattle.fetch_stream.specs.Fetches.{version_of}
use Rattle.fetch_stream.specs.Streams.{StreamAt, Opens}
use Rattle.flight_core.specs.Asked.{Asked}
use Rattle.version_log.specs.Log.{Log, version}
use Rattle.flight_core.specs.Machine.{FetchBy}
use Rattle.flight_core.specs.declared.answer.Answer.TheVariants.{Stream}
use Rattle.flight_core.specs.Machine.{ReplyTo}
use Rattle.flight_core.specs.StepAnswer.{AnsweredBy, IsReplyOf}
use Rattle.flight_calls.specs.Sends.{SendsReply}
use Rattle.flight_core.proofs.Fetching.{shows}
use Rattle.flight_calls.proofs.Streaming.{SendsFetch}

pub stream_sent : (asked : Result Asked Fault) (log new : Log) (stream : StreamAt) (r : Result (Unit {0}) Fault) (a b : Outgoing) → AnsweredBy asked log (Stream stream) new
    → ((database : Database) (handle : HandleAt) → Opens database handle (Ok stream) → SendsFetch database handle r a b)
    → SendsReply (λ (reply : ReplyAt). ReplyTo asked log reply new × IsReplyOf (Stream stream) reply) r a b
stream_sent asked log new stream r a b answered sends =
    let seen = shows log answered.1 stream answered.4 in
    let sent = sends (version log (version_of seen.handle)) seen.handle seen.opens in
    record {
      reply = sent.reply;
      right = (
        subst (λ (q : Result Asked Fault). ReplyTo q log sent.reply new) (sym answered.3)
            (answered.0, inl (subst (λ (s : Result HandleAt Fault). FetchBy log s sent.reply.payloads sent.reply.fault) (sym seen.shown) sent.right)),
        tt,
      );
      fits = sent.fits;
      sent = sent.sent;
    }
